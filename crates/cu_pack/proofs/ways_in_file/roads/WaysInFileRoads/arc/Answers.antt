use Rattle.std.proofs.Common.{◌∙◌, Some, ap, sym, subst, arith}
use Rattle.cu_pack.specs.Steps.Fronts.{SpellsSections}
use Rattle.cu_pack.proofs.Viewed.Views.{arcs_known, network_known}
use Rattle.cu_pack.proofs.Viewed.ViewedRoads.{arc_seen}
use Rattle.cu_pack.proofs.ways_in_file.roads.WaysInFileRoads.arc.Goals as goal

pub arc-requires : goal.arc-requires
arc-requires c =
    let bytes = c.self.inside.sections.now in
    let many = arcs_known bytes c.args.self.now (subst (SpellsSections bytes) c.self.view_is c.self.invariant) in
    record { arc = omega (arith, many, c.requires) }

pub returns-clause-there : goal.returns-clause-there
returns-clause-there c =
    let same = network_known c.self.inside.sections.now c.args.self.now (subst (SpellsSections c.self.inside.sections.now) c.self.view_is c.self.invariant) in
    arc_seen c.self.inside.sections.now c.args.self.now.network same c.args.arc c.requires ∙ ap Some (sym c.arc.ensures.road)
