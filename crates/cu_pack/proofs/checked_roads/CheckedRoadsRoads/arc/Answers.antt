use Rattle.std.proofs.Common.{◌∙◌, Some, ap, subst, sym, arith}
use Rattle.cu_model.specs.Networks.{IsNetwork}
use Rattle.cu_pack.specs.Reading.{network_in}
use Rattle.cu_pack.proofs.Spelled.Passed.{network_valid}
use Rattle.cu_pack.proofs.Viewed.ViewedRoads.{arc_seen, arcs_seen}
use Rattle.cu_pack.proofs.checked_roads.CheckedRoadsRoads.arc.Goals as goal

pub arc-requires : goal.arc-requires
arc-requires c =
    let many = arcs_seen c.self.inside.sections.now (network_in c.args.self.now) (ap network_in c.self.view_is) in
    record { arc = omega (arith, many, c.requires) }

pub returns-clause-there : goal.returns-clause-there
returns-clause-there c =
    arc_seen c.self.inside.sections.now (network_in c.args.self.now) (ap network_in c.self.view_is) c.args.arc c.requires ∙ ap Some (sym c.arc.ensures.road)

pub returns-clause-sound : goal.returns-clause-sound
returns-clause-sound c = subst (λ bytes. IsNetwork (network_in bytes)) c.self.view_is (network_valid c.self.inside.sections.now c.self.invariant)
