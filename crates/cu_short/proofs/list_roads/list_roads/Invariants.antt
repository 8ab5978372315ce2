-- The most so far, and the finder has come no further than to this edge.
use Rattle.std.proofs.Common.{◌≡◌, ℕ, Some}
use Rattle.std.specs.Prelude.{slice_get}
use Rattle.cu_bounds.specs.Steps.InTurn.{IsFinderUpTo}
use Rattle.cu_chordal.specs.declared.graph.Ends.{Ends}
use Rattle.cu_interval.specs.declared.shortcuts.Shortcut.{Shortcut}
use Rattle.cu_interval.specs.Hierarchies.{HierarchyValue}
use Rattle.cu_interval.specs.Shortcuts.{ways_of}
use Rattle.cu_short.proofs.MostSoFar.{IsMostSoFar, roads_between}
use Rattle.cu_short.proofs.list_roads.list_roads.Given as goal

pub record IsMost (h : HierarchyValue) (shortcut : Shortcut) (index most : ℕ) (known : HierarchyValue) (reached : ℕ) : Type 0 where
  pub so_far : (ends : Ends) → slice_get h.edges shortcut.edge ≡ Some ends → IsMostSoFar (roads_between h ends shortcut) (ways_of h shortcut) index most
  pub finder : IsFinderUpTo h shortcut.edge known reached

abbrev pub invariant-loop-index : goal.invariant-loop-index
invariant-loop-index g l =
    IsMost (g.W.Ways.hierarchy l.ways) l.shortcut l.index l.most (g.F.Halving.hierarchy l.finder) (g.F.Halving.reached l.finder)
