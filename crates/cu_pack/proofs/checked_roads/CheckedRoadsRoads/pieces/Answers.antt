use Rattle.std.proofs.Common.{◌∙◌, length, ap, subst, sym, arith}
use Rattle.cu_model.specs.Networks.{IsNetwork}
use Rattle.cu_pack.specs.Reading.{network_in}
use Rattle.cu_pack.proofs.Spelled.Passed.{network_valid}
use Rattle.cu_pack.proofs.Viewed.ViewedRoads.{pieces_seen, profiles_seen}
use Rattle.cu_pack.proofs.checked_roads.CheckedRoadsRoads.pieces.Goals as goal

pub piece_count-requires-clause-profile : goal.piece_count-requires-clause-profile
piece_count-requires-clause-profile c =
    let many = profiles_seen c.self.inside.sections.now (network_in c.args.self.now) (ap network_in c.self.view_is) in
    omega (arith, many, c.requires)

pub returns-clause-count : goal.returns-clause-count
returns-clause-count c =
    c.piece_count.ensures.count ∙ ap length (sym (pieces_seen c.self.inside.sections.now (network_in c.args.self.now) (ap network_in c.self.view_is) c.args.profile c.requires))

pub returns-clause-sound : goal.returns-clause-sound
returns-clause-sound c = subst (λ bytes. IsNetwork (network_in bytes)) c.self.view_is (network_valid c.self.inside.sections.now c.self.invariant)
