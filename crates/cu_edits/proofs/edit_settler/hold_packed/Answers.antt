use Rattle.std.proofs.Common.{◌≡◌, Option, ap, length, refl, subst, sym}
use Rattle.std.specs.Prelude.{IfSome}
use Rattle.cu_chordal.specs.Graphs.{ChordalValue}
use Rattle.cu_unpack.specs.RebuiltRuns.{PackedValue}
use Rattle.cu_edits.specs.Learned.{ArePackedOf}
use Rattle.cu_edits.specs.Steps.SettlerStates.{Holds, IsBegun}
use Rattle.cu_edits.specs.Steps.Parts.{settling_over}
use Rattle.cu_edits.proofs.StateLaws.{holds_packed}
use Rattle.cu_edits.proofs.edit_settler.hold_packed.Goals as goal

pub returns-in_ok-packed-clause-begun : goal.returns-in_ok-packed-clause-begun
returns-in_ok-packed-clause-begun g c = subst IsBegun (sym c.set_state.ensures) tt

pub returns-in_ok-packed-clause-holds : goal.returns-in_ok-packed-clause-holds
returns-in_ok-packed-clause-holds g c settled state =
    let s = settling_over c.args.parts.now settled in
    let graph = c.args.parts.now.graph in
    let arcs = c.args.parts.now.arcs in
    let (none, known) = subst (Holds s graph arcs) c.in-Nothing.is state in
    let long : length s.before.edges ≡ length graph.edges = ap (λ (k : ChordalValue). length k.edges) (sym none.parts.hierarchy.0) in
    let earlier = subst (λ (o : Option PackedValue). IfSome o (ArePackedOf s.before)) (sym c.take.ensures.value) known in
    let of = c.in_ok-packed.ensures in
    subst (Holds s graph arcs) (sym c.set_state.ensures)
    (holds_packed s graph arcs (length graph.edges) c.in_ok-packed.packed.functions c.in_ok-packed.packed.moved refl none (of.functions s.before long earlier) of.long of.none)
