use Rattle.std.proofs.Common.{◌<◌, Bool, List, ℕ, length, subst, sym}
use Rattle.std.specs.Prelude.{All}
use Rattle.cu_edits.proofs.FoundLaws.{found_within}
use Rattle.cu_edits.proofs.found_edges.FoundEdges.clear.Goals as goal

pub unmark-requires : goal.unmark-requires
unmark-requires c =
    let marks = c.self.inside.marks.items in
    let all = found_within marks c.self.inside.found.items c.self.invariant in
    subst (λ (ms : List Bool). All (λ edge. edge < length ms) c.deref.result.now) (sym c.deref_mut.ensures.value)
    (subst (λ (found : List ℕ). All (λ edge. edge < length marks) found) (sym c.deref.ensures.value) all)
