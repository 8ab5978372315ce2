use Rattle.std.proofs.Common.{subst}
use Rattle.cu_pack.specs.Steps.Fronts.{SpellsSections}
use Rattle.cu_pack.proofs.Viewed.Views.{graph_known, network_known}
use Rattle.cu_pack.proofs.Viewed.ViewedRoads.{piece_inside, piece_seen}
use Rattle.cu_pack.proofs.ways_in_file.roads.WaysInFileRoads.piece.Goals as goal

pub piece_of-requires : goal.piece_of-requires
piece_of-requires c =
    let spells = subst (SpellsSections c.self.inside.sections.now) c.self.view_is c.self.invariant in
    let there = piece_inside c.self.inside.sections.now c.args.self.now.network (network_known c.self.inside.sections.now c.args.self.now spells) c.args.profile c.args.index c.requires in
    record { roads = (graph_known c.self.inside.sections.now c.args.self.now spells).roads; profile = there.0; index = there.1 }

pub returns-clause-there : goal.returns-clause-there
returns-clause-there c =
    let same = network_known c.self.inside.sections.now c.args.self.now (subst (SpellsSections c.self.inside.sections.now) c.self.view_is c.self.invariant) in
    piece_seen c.self.inside.sections.now c.args.self.now.network same c.args.profile c.args.index c.requires c.piece_of.result c.piece_of.ensures.there
