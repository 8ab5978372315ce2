-- The bounds of the lists of the first edges are found anew, and the finder of halves has come no further than to the others.
use Rattle.cu_bounds.proofs.Renewed.{IsRenewing}
use Rattle.cu_bounds.proofs.renewing.renew_all.Given as goal

abbrev pub invariant-loop-touched : goal.invariant-loop-touched
invariant-loop-touched g l =
    IsRenewing (g.W.Ways.hierarchy l.ways) l.lists l.touched-index l.bounds (g.F.Halving.hierarchy l.finder) (g.F.Halving.reached l.finder)
