-- Touched edges settled one after the other: their lists become those of the resettled hierarchy.
use Rattle.std.specs.Prelude.{ℕ, List, Some, ◌≡◌, ◌⊎◌, map, slice_get}
use Rattle.std.specs.List.{Contains}
use Rattle.cu_model.specs.declared.roads.Edit.{Edit}
use Rattle.cu_chordal.specs.declared.graph.Ends.{Ends}
use Rattle.cu_chordal.specs.Graphs.{HasEdge}
use Rattle.cu_interval.specs.declared.ways.Dir.{Dir}
use Rattle.cu_interval.specs.declared.ways.Dir.TheVariants.{Up, Down}
use Rattle.cu_interval.specs.declared.ways.Entry.{Entry}
use Rattle.cu_interval.specs.declared.ways.TouchedEdge.{TouchedEdge}
use Rattle.cu_interval.specs.Hierarchies.{HierarchyValue, end_of, start_of}
use Rattle.cu_interval.specs.Resettling.{IsResettledList}
use Rattle.cu_resettled.specs.ResettlingAll.{IsTouchedEdgeBySome, hierarchy_with_all}

-- a hierarchy before an edit, the edit, and the edges settled so far with their new lists, in the order in which they were settled
pub record SettlingValue : Type 0 where
  pub before : HierarchyValue
  pub edit : List Edit
  pub settled : List TouchedEdge

-- the numbers of these edges
abbrev pub numbers_of : List TouchedEdge → List ℕ
numbers_of edges = map (λ (touched : TouchedEdge). touched.edge) edges

-- the new list of an edge in a direction
abbrev pub list_in : TouchedEdge → Dir → List Entry
list_in touched Up = touched.up
list_in touched Down = touched.down

-- the hierarchy with its network edited and the lists of the edges settled so far replaced
abbrev pub settled_so_far : SettlingValue → HierarchyValue
settled_so_far s = hierarchy_with_all s.before s.edit s.settled

abbrev pub IsSettled : SettlingValue → ℕ → Type 0
IsSettled s edge = Contains (numbers_of s.settled) edge

-- the lists of the edge with this number won't change any more: it is settled, or isn't touched
abbrev pub IsFinal : SettlingValue → ℕ → Type 0
IsFinal s edge = IsSettled s edge ⊎ (IsTouchedEdgeBySome s.before s.edit edge → ⊥)

-- an edge is a lower side of a lower triangle of another: it joins a rank, which is joined to both ends of the other, to one of them
abbrev pub IsLowerSide : List Ends → ℕ → ℕ → Type 0
IsLowerSide edges edge side = (ends : Ends) × (rank : ℕ) × (slice_get edges edge ≡ Some ends) × HasEdge edges rank ends.low × HasEdge edges rank ends.high
    × ((slice_get edges side ≡ Some (record { low = rank; high = ends.low })) ⊎ (slice_get edges side ≡ Some (record { low = rank; high = ends.high })))

-- the edges of the lower triangles of an edge won't change any more
abbrev pub HasFinalSides : SettlingValue → ℕ → Type 0
HasFinalSides s edge = (side : ℕ) → IsLowerSide s.before.edges edge side → IsFinal s side

-- the new lists of an edge are the resettled ones of a hierarchy
abbrev pub IsResettledEdge : HierarchyValue → TouchedEdge → Type 0
IsResettledEdge h touched = (dir : Dir) (ends : Ends) → slice_get h.edges touched.edge ≡ Some ends
    → IsResettledList h (start_of ends dir) (end_of ends dir) (list_in touched dir)
