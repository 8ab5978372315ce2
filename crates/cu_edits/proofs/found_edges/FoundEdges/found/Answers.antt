use Rattle.std.proofs.Common.{◌<◌, ℕ, List, ap, length, subst, sym}
use Rattle.std.specs.Prelude.{All}
use Rattle.cu_edits.specs.Steps.Found.{FoundValue}
use Rattle.cu_edits.proofs.FoundLaws.{found_within}
use Rattle.cu_edits.proofs.found_edges.FoundEdges.found.Goals as goal

pub returns-clause-within : goal.returns-clause-within
returns-clause-within c =
    let all = found_within c.self.inside.marks.items c.self.inside.found.items c.self.invariant in
    subst (λ (n : ℕ). All (λ edge. edge < n) c.deref.result.now) (ap (λ (v : FoundValue). v.edges) c.self.view_is)
    (subst (λ (found : List ℕ). All (λ edge. edge < length c.self.inside.marks.items) found) (sym c.deref.ensures.value) all)
