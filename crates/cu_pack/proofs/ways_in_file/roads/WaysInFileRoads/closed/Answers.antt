use Rattle.std.proofs.Common.{◌∙◌, ap, subst, arith}
use Rattle.cu_model.specs.Networks.{NetworkValue}
use Rattle.cu_model.specs.Roads.{is_closed_arc}
use Rattle.cu_pack.specs.Steps.Fronts.{SpellsSections}
use Rattle.cu_pack.proofs.Viewed.Views.{arcs_known, graph_known, network_known}
use Rattle.cu_pack.proofs.ways_in_file.roads.WaysInFileRoads.closed.Goals as goal

pub is_closed-requires-clause-roads : goal.is_closed-requires-clause-roads
is_closed-requires-clause-roads c = (graph_known c.self.inside.sections.now c.args.self.now (subst (SpellsSections c.self.inside.sections.now) c.self.view_is c.self.invariant)).roads

pub is_closed-requires-clause-arc : goal.is_closed-requires-clause-arc
is_closed-requires-clause-arc c =
    let many = arcs_known c.self.inside.sections.now c.args.self.now (subst (SpellsSections c.self.inside.sections.now) c.self.view_is c.self.invariant) in
    omega (arith, many, c.requires)

pub returns-clause-closed : goal.returns-clause-closed
returns-clause-closed c =
    let same = network_known c.self.inside.sections.now c.args.self.now (subst (SpellsSections c.self.inside.sections.now) c.self.view_is c.self.invariant) in
    c.is_closed.ensures.closed ∙ ap (λ (g : NetworkValue). is_closed_arc g c.args.arc) same
