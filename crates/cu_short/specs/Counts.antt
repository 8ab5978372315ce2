-- The most roads of lists, kept by the number of their list.
use Rattle.std.specs.Prelude.{ℕ, List, Some, ◌≡◌, ◌<◌, ◌*◌, length, slice_get, slice_index}
use Rattle.std.specs.List.{Contains}
use Rattle.cu_chordal.specs.declared.graph.Ends.{Ends}
use Rattle.cu_interval.specs.declared.ways.Dir.{Dir}
use Rattle.cu_interval.specs.Hierarchies.{HierarchyValue, end_of, list_number, start_of}
use Rattle.cu_short.specs.Shortness.{most_roads}

-- a number is the most roads of the list between these ends, and they are fewer than there are nodes
abbrev pub IsCounted : HierarchyValue → ℕ → Dir → Ends → Type 0
IsCounted h number dir ends = (number ≡ most_roads h (start_of ends dir) (end_of ends dir)) × (number < h.network.nodes)

-- the most roads of each list are kept, and are few
pub record AreRoadCounts (h : HierarchyValue) (counts : List ℕ) : Type 0 where
  pub long : length counts ≡ 2 * length h.edges
  pub right : (edge : ℕ) (dir : Dir) (ends : Ends) → slice_get h.edges edge ≡ Some ends → IsCounted h (slice_index counts (list_number edge dir)) dir ends

-- so are those of each list of an edge that isn't among these
pub record AreRoadCountsBut (h : HierarchyValue) (counts edges : List ℕ) : Type 0 where
  pub long : length counts ≡ 2 * length h.edges
  pub right : (edge : ℕ) (dir : Dir) (ends : Ends) → slice_get h.edges edge ≡ Some ends → (Contains edges edge → ⊥)
      → IsCounted h (slice_index counts (list_number edge dir)) dir ends
