-- The lists of the first edges are counted, and the finder has come no further.
use Rattle.std.proofs.Common.{◌*◌, ℕ, List}
use Rattle.cu_bounds.specs.Steps.InTurn.{IsFinderUpTo}
use Rattle.cu_interval.specs.Hierarchies.{HierarchyValue}
use Rattle.cu_short.specs.Steps.Counted.{AreFirstCounts}
use Rattle.cu_short.proofs.counting.count_lists.Given as goal

pub record AreCounted (h : HierarchyValue) (counts : List ℕ) (edge : ℕ) (known : HierarchyValue) (reached : ℕ) : Type 0 where
  pub first : AreFirstCounts h counts (2 * edge)
  pub finder : IsFinderUpTo h edge known reached

abbrev pub invariant-loop-edge : goal.invariant-loop-edge
invariant-loop-edge g l = AreCounted (g.W.Ways.hierarchy l.ways) l.counts.items l.edge (g.F.Halving.hierarchy l.finder) (g.F.Halving.reached l.finder)
