use Rattle.std.proofs.Common.{arith}
use Rattle.cu_interval.specs.Hierarchies.{start_of}
use Rattle.cu_pack.proofs.Numbering.Cursors.{cursors_more}
use Rattle.cu_pack.proofs.Read.HalfEdges.{low_least, middle_joined, rank_inside}
use Rattle.cu_pack.proofs.Read.WayEntries.{ends_inside}
use Rattle.cu_pack.proofs.halving.halves_by.Goals as goal

pub move_on-requires-clause-rank : goal.move_on-requires-clause-rank
move_on-requires-clause-rank c =
    let bytes = c.args.sections.now in
    let joined = middle_joined bytes c.requires.graph c.args.shortcut.edge c.args.shortcut.dir c.args.middle c.args.ends c.requires.ends c.requires.middle in
    rank_inside bytes c.requires.graph c.args.middle (start_of c.args.ends c.args.shortcut.dir) joined.0

pub edge_to-requires-clause-places : goal.edge_to-requires-clause-places
edge_to-requires-clause-places c =
    let range = ends_inside c.args.sections.now c.requires.graph c.args.shortcut.edge c.args.ends c.requires.ends in
    let least = low_least c.args.ends c.args.shortcut.dir range.0 in
    cursors_more c.args.sections.now c.args.ends.low c.leg_of-leg.result.from c.move_on.new.places (omega (arith, least.0, c.leg_of-leg.ensures.from))
    c.move_on.ensures.places

pub edge_to-requires-2-clause-places : goal.edge_to-requires-2-clause-places
edge_to-requires-2-clause-places c =
    let range = ends_inside c.args.sections.now c.requires.graph c.args.shortcut.edge c.args.ends c.requires.ends in
    let least = low_least c.args.ends c.args.shortcut.dir range.0 in
    cursors_more c.args.sections.now c.args.ends.low c.leg_of-leg.result.to c.move_on.new.places (omega (arith, least.1, c.leg_of-leg.ensures.to))
    c.move_on.ensures.places
