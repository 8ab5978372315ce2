-- Touched edges: those whose lists an edit may change.
use Rattle.std.specs.Prelude.{ℕ, List, Some, ◌≡◌, ◌<◌, ◌⊎◌, ◌↔◌, slice_get}
use Rattle.std.specs.List.{Contains}
use Rattle.std.specs.List.Sorted.{IsStrictlyIncreasing}
use Rattle.cu_model.specs.declared.roads.RoadArc.{RoadArc}
use Rattle.cu_model.specs.declared.roads.Edit.{Edit}
use Rattle.cu_model.specs.declared.roads.Edit.TheVariants.{Set, Assign}
use Rattle.cu_model.specs.Networks.{NetworkValue}
use Rattle.cu_model.specs.Orders.{OrderValue}
use Rattle.cu_chordal.specs.declared.graph.Ends.{Ends}
use Rattle.cu_chordal.specs.Edges.{LinksRanks, IsEdge}
use Rattle.cu_interval.specs.Hierarchies.{HierarchyValue}

-- the changed roads of an edit: all with the profile that is set, or the one that is assigned another
abbrev pub IsChanged : NetworkValue → Edit → ℕ → Type 0
IsChanged g (Set profile pieces) a = (arc : RoadArc) × (slice_get g.arcs a ≡ Some arc) × (arc.profile ≡ profile)
IsChanged g (Assign b profile) a = a ≡ b

-- the touched pairs of ranks x below y: those that a changed road joins, and those over a lower triangle with a touched side
pub data IsTouched (g : NetworkValue) (o : OrderValue) (edit : Edit) : ℕ → ℕ → Type 0 where
  by_road : (a x y : ℕ) → IsChanged g edit a → LinksRanks g o a x y ⊎ LinksRanks g o a y x → x < y → IsTouched g o edit x y
  by_first : (m x y : ℕ) → IsTouched g o edit m x → m < x → x < y → IsEdge g o m x → IsEdge g o m y → IsTouched g o edit x y
  by_second : (m x y : ℕ) → IsTouched g o edit m y → m < x → x < y → IsEdge g o m x → IsEdge g o m y → IsTouched g o edit x y

-- the edge with this number is touched
abbrev pub IsTouchedEdge : HierarchyValue → Edit → ℕ → Type 0
IsTouchedEdge h edit edge = (ends : Ends) × (slice_get h.edges edge ≡ Some ends) × IsTouched h.network h.order edit ends.low ends.high

-- the touched edges of a hierarchy by their numbers, rising
pub record NumbersTouched (h : HierarchyValue) (edit : Edit) (touched : List ℕ) : Type 0 where
  pub rising : IsStrictlyIncreasing touched
  pub exact : (edge : ℕ) → Contains touched edge ↔ IsTouchedEdge h edit edge
