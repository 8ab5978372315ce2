-- Functions of lists of a hierarchy, as packed runs: which lists are known, and by which functions.
use Rattle.std.specs.Prelude.{ℕ, false, Some, None, ◌≡◌, length, slice_get}
use Rattle.cu_interval.specs.Hierarchies.{HierarchyValue}
use Rattle.cu_unpack.specs.RebuiltRuns.{IsSized, KeepsPacked, PackedValue}

-- functions of lists of a hierarchy, and no others; none stands for a list that isn't known
pub record ArePackedOf (h : HierarchyValue) (packed : PackedValue) : Type 0 where
  pub size : IsSized (length h.edges) packed
  pub keeps : KeepsPacked h (λ edge. Unit {0}) packed
  pub unknown : (number : ℕ) → slice_get packed.known number ≡ Some false → slice_get packed.functions number ≡ Some None
