-- Halves that are found in another hierarchy with the same edges.
use Rattle.std.specs.Prelude.{ℕ, ◌≡◌}
use Rattle.cu_interval.specs.Hierarchies.{HierarchyValue, IsHierarchy}

-- a hierarchy, the one whose halves a finder finds, and how far this has come
pub record HalvesValue : Type 0 where
  pub hierarchy : HierarchyValue
  pub known : HierarchyValue
  pub reached : ℕ

-- that one has the same edges
pub record HaveSameEdges (h known : HierarchyValue) : Type 0 where
  pub same : known.edges ≡ h.edges
  pub sound : IsHierarchy known
