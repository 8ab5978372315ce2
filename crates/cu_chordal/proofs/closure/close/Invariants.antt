use Rattle.cu_chordal.proofs.Adding.{IsClosing}
use Rattle.cu_chordal.proofs.closure.close.Given as goal

abbrev pub invariant-loop-rank : goal.invariant-loop-rank
invariant-loop-rank g l = IsClosing (g.N.Roads.network l.roads) l.order l.ranks l.rank l.closing
