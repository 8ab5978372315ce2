use Rattle.std.proofs.Common.{List, refl, subst}
use Rattle.cu_chordal.specs.declared.graph.Ends.{Ends}
use Rattle.cu_edits.specs.Steps.Moving.{KeepsHalves}
use Rattle.cu_edits.specs.Steps.Parts.{settling_over}
use Rattle.cu_edits.proofs.AtHand.{same_edges}
use Rattle.cu_edits.proofs.PackedNext.{list_stands}
use Rattle.cu_edits.proofs.settling_packed.next_list.Goals as goal

pub returns-then-may_stand-clause-list : goal.returns-then-may_stand-clause-list
returns-then-may_stand-clause-list g c done holds asked =
    let parts = c.args.parts.now in
    let moved = c.args.state.now.moved in
    let kept = subst (λ (es : List Ends). KeepsHalves es moved c.args.edge) (same_edges parts.before parts.graph c.may_stand.ensures.fit.0.hierarchy) c.requires.halves in
    list_stands (settling_over parts done) parts.graph parts.arcs c.args.state.now.functions moved holds c.args.edge asked parts.customized c.may_stand.ensures.fit.1 c.args.dir kept
    (c.may_stand.ensures.stands c.if-may_stand.true) _ c.in_ok-ways.ensures refl refl
