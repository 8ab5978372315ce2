use Rattle.std.proofs.Common.{List, subst, sym}
use Rattle.std.specs.Prelude.{All}
use Rattle.cu_customize.specs.declared.triangles.Triangle.{Triangle}
use Rattle.cu_edits.specs.Steps.Moving.{IsUnmoved}
use Rattle.cu_edits.specs.Steps.Triangles.{HalvesByAre, TellsSides}
use Rattle.cu_edits.proofs.AtHand.{may_stand, told_sides}
use Rattle.cu_edits.proofs.settling_packed.may_stand.Goals as goal

pub are_halves_unmoved-requires : goal.are_halves_unmoved-requires
are_halves_unmoved-requires g c =
    let moved = c.args.state.now.moved in
    subst (λ (ts : List Triangle). All (TellsSides moved) ts) (sym c.triangles.ensures)
    (told_sides moved c.args.parts.now.graph.edges c.args.edge c.args.state.now.settling c.requires.moved c.requires.edge c.requires.triangles)

pub returns-clause-stands : goal.returns-clause-stands
returns-clause-stands g c unmoved =
    let moved = c.args.state.now.moved in
    may_stand c.args.parts.now.before c.args.parts.now.graph c.is_marked.ensures.fit.0.hierarchy c.args.parts.now.edit c.args.parts.now.customized moved c.args.edge c.args.dir
    c.args.parts.now.arcs c.args.state.now.settling (c.is_marked.ensures.marked c.if-not-is_marked.false) (c.are_roads_unchanged.ensures c.if-not-are_roads_unchanged.false) c.requires.triangles
    (subst (λ (ts : List Triangle). All (HalvesByAre (IsUnmoved moved) c.args.dir) ts) c.triangles.ensures (c.are_halves_unmoved.ensures unmoved))
