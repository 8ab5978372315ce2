-- The lists of the first edges are counted anew.
use Rattle.cu_short.proofs.Recounting.{AreRecounted}
use Rattle.cu_short.proofs.renewing.renew_lists.Given as goal

abbrev pub invariant-loop-touched : goal.invariant-loop-touched
invariant-loop-touched g l = AreRecounted (g.W.Ways.hierarchy l.ways) l.lists l.touched-index l.counts
