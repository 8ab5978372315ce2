-- The least so far, and the finder has come no further than to this edge.
use Rattle.cu_bounds.proofs.ListLeast.{IsBound}
use Rattle.cu_bounds.proofs.list_bounds.list_bound.Given as goal

abbrev pub invariant-loop-index : goal.invariant-loop-index
invariant-loop-index g l =
    IsBound (g.W.Ways.hierarchy l.ways) l.shortcut l.index l.least (g.F.Halving.hierarchy l.finder) (g.F.Halving.reached l.finder)
