use Rattle.std.proofs.Common.{◌∙◌, ap, sym, subst, arith, length}
use Rattle.cu_pack.specs.Steps.Fronts.{SpellsSections}
use Rattle.cu_pack.proofs.Viewed.Views.{graph_known, network_known, profiles_known}
use Rattle.cu_pack.proofs.Viewed.ViewedRoads.{pieces_seen}
use Rattle.cu_pack.proofs.ways_in_file.roads.WaysInFileRoads.pieces.Goals as goal

pub piece_count-requires-clause-roads : goal.piece_count-requires-clause-roads
piece_count-requires-clause-roads c = (graph_known c.self.inside.sections.now c.args.self.now (subst (SpellsSections c.self.inside.sections.now) c.self.view_is c.self.invariant)).roads

pub piece_count-requires-clause-profile : goal.piece_count-requires-clause-profile
piece_count-requires-clause-profile c =
    let many = profiles_known c.self.inside.sections.now c.args.self.now (subst (SpellsSections c.self.inside.sections.now) c.self.view_is c.self.invariant) in
    omega (arith, many, c.requires)

pub returns-clause-count : goal.returns-clause-count
returns-clause-count c =
    let same = network_known c.self.inside.sections.now c.args.self.now (subst (SpellsSections c.self.inside.sections.now) c.self.view_is c.self.invariant) in
    c.piece_count.ensures.count ∙ ap length (sym (pieces_seen c.self.inside.sections.now c.args.self.now.network same c.args.profile c.requires))
