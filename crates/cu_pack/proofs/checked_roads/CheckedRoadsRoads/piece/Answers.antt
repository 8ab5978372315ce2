use Rattle.std.proofs.Common.{ap, subst}
use Rattle.cu_model.specs.Networks.{IsNetwork}
use Rattle.cu_pack.specs.Reading.{network_in}
use Rattle.cu_pack.proofs.Spelled.Passed.{network_valid}
use Rattle.cu_pack.proofs.Viewed.ViewedRoads.{piece_inside, piece_seen}
use Rattle.cu_pack.proofs.checked_roads.CheckedRoadsRoads.piece.Goals as goal

pub piece_of-requires : goal.piece_of-requires
piece_of-requires c =
    let there = piece_inside c.self.inside.sections.now (network_in c.args.self.now) (ap network_in c.self.view_is) c.args.profile c.args.index c.requires in
    record { roads = c.self.invariant; profile = there.0; index = there.1 }

pub returns-clause-there : goal.returns-clause-there
returns-clause-there c =
    piece_seen c.self.inside.sections.now (network_in c.args.self.now) (ap network_in c.self.view_is) c.args.profile c.args.index c.requires c.piece_of.result c.piece_of.ensures.there

pub returns-clause-sound : goal.returns-clause-sound
returns-clause-sound c = subst (λ bytes. IsNetwork (network_in bytes)) c.self.view_is (network_valid c.self.inside.sections.now c.self.invariant)
