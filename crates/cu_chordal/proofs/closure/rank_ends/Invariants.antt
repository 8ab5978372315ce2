use Rattle.cu_chordal.specs.Steps.Links.{AreRankEnds}
use Rattle.cu_chordal.proofs.closure.rank_ends.Given as goal

abbrev pub invariant-loop-arc : goal.invariant-loop-arc
invariant-loop-arc g l = AreRankEnds (g.N.Roads.network l.roads) l.order l.arc l.lows.items l.highs.items
