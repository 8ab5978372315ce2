-- The lists of the first edges are right, and the finder has come no further.
use Rattle.std.proofs.Common.{◌*◌, ℕ}
use Rattle.cu_interval.specs.Hierarchies.{HierarchyValue}
use Rattle.cu_bounds.specs.KeptBounds.{AreRightBelow}
use Rattle.cu_bounds.specs.Steps.InTurn.{IsFinderUpTo}
use Rattle.cu_bounds.proofs.finding.first_wrong.Given as goal

pub record AreRight (h : HierarchyValue) (kept : ℕ → ℕ) (edge : ℕ) (known : HierarchyValue) (reached : ℕ) : Type 0 where
  pub right : AreRightBelow h kept (2 * edge)
  pub finder : IsFinderUpTo h edge known reached

abbrev pub invariant-loop-edge : goal.invariant-loop-edge
invariant-loop-edge g l =
    AreRight (g.W.Ways.hierarchy l.ways) (g.K.KeptBounds.kept l.kept) l.edge (g.F.Halving.hierarchy l.finder) (g.F.Halving.reached l.finder)
