-- Edges that were settled one after the other.
use Rattle.std.specs.Prelude.{ℕ, ◌≢◌}
use Rattle.std.specs.List.{AllPairs, Contains}
use Rattle.cu_interval.specs.declared.ways.TouchedEdge.{TouchedEdge}
use Rattle.cu_interval.specs.Hierarchies.{IsHierarchy}
use Rattle.cu_edits.specs.Settling.{HasFinalSides, IsResettledEdge, IsSettled, SettlingValue, settled_so_far}
use Rattle.cu_resettled.specs.ResettlingAll.{IsTouchedEdgeBySome}

-- edges of a hierarchy that were settled, each touched, once, and after the touched edges of its lower triangles
pub record AreSettled (s : SettlingValue) : Type 0 where
  pub sound : IsHierarchy s.before
  pub touched : (edge : ℕ) → IsSettled s edge → IsTouchedEdgeBySome s.before s.edit edge
  pub sides : (edge : ℕ) → IsSettled s edge → HasFinalSides s edge
  pub lists : (touched : TouchedEdge) → Contains s.settled touched → IsResettledEdge (settled_so_far s) touched
  pub once : AllPairs (λ (first second : TouchedEdge). first.edge ≢ second.edge) s.settled
