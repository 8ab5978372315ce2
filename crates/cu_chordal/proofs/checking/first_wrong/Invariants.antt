use Rattle.cu_chordal.proofs.Claims.{AreRightBelow}
use Rattle.cu_chordal.proofs.checking.first_wrong.Given as goal

abbrev pub invariant-loop-rank : goal.invariant-loop-rank
invariant-loop-rank g l = AreRightBelow (g.N.Roads.network l.roads) l.order l.ranks l.rank l.starts l.uppers l.checking
