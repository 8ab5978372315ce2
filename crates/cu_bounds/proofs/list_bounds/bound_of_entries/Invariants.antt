-- The least so far, and the finder has come no further than to this edge.
use Rattle.cu_bounds.proofs.ListLeast.{IsBound}
use Rattle.cu_bounds.proofs.list_bounds.bound_of_entries.Given as goal

abbrev pub invariant-loop-entry : goal.invariant-loop-entry
invariant-loop-entry g l =
    IsBound (g.W.Ways.hierarchy l.ways) l.shortcut l.entry-index l.least (g.F.Halving.hierarchy l.finder) (g.F.Halving.reached l.finder)
