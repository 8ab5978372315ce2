use Rattle.std.proofs.Common.{arith, refl}
use Rattle.cu_chordal.proofs.Members.{member_at}
use Rattle.cu_chordal.proofs.Tables.{edge_within}
use Rattle.cu_edits.proofs.climbing.climb.Goals as goal

pub climb_from-requires-clause-low : goal.climb_from-requires-clause-low
climb_from-requires-clause-low c =
    let ends = c.ends-ends.result in
    let both = edge_within c.args.graph.now c.ends-ends.ensures.sound ends.low ends.high (member_at c.args.graph.now.edges ends c.args.edge c.ends-ends.ensures.there) in
    omega (arith, both.0, both.1)

pub climb_from-requires-clause-edge : goal.climb_from-requires-clause-edge
climb_from-requires-clause-edge c = (c.ends-ends.result.high, refl, c.ends-ends.ensures.there)
