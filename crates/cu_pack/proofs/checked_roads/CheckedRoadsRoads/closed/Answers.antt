use Rattle.std.proofs.Common.{ap, subst, arith}
use Rattle.cu_model.specs.Networks.{IsNetwork}
use Rattle.cu_pack.specs.Reading.{network_in}
use Rattle.cu_pack.proofs.Spelled.Passed.{network_valid}
use Rattle.cu_pack.proofs.Viewed.ViewedRoads.{arcs_seen}
use Rattle.cu_pack.proofs.checked_roads.CheckedRoadsRoads.closed.Goals as goal

pub is_closed-requires-clause-arc : goal.is_closed-requires-clause-arc
is_closed-requires-clause-arc c =
    let many = arcs_seen c.self.inside.sections.now (network_in c.args.self.now) (ap network_in c.self.view_is) in
    omega (arith, many, c.requires)

pub returns-clause-sound : goal.returns-clause-sound
returns-clause-sound c = subst (λ bytes. IsNetwork (network_in bytes)) c.self.view_is (network_valid c.self.inside.sections.now c.self.invariant)
