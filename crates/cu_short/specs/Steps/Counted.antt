-- Lists whose most roads are counted in turn, by rising number.
use Rattle.std.specs.Prelude.{ℕ, Bool, List, Some, true, false, ◌≡◌, ◌<◌, length, slice_get, slice_index}
use Rattle.cu_chordal.specs.declared.graph.Ends.{Ends}
use Rattle.cu_interval.specs.declared.ways.Dir.{Dir}
use Rattle.cu_interval.specs.Hierarchies.{HierarchyValue, list_number}
use Rattle.cu_short.specs.Counts.{AreRoadCounts, IsCounted}
use Rattle.cu_short.specs.Shortness.{IsShort}

-- for each list of a lower number its most roads are counted
abbrev pub AreCountedBelow : HierarchyValue → (ℕ → ℕ) → ℕ → Type 0
AreCountedBelow h counts count =
    (edge : ℕ) (dir : Dir) (ends : Ends) → slice_get h.edges edge ≡ Some ends → list_number edge dir < count → IsCounted h (counts (list_number edge dir)) dir ends

-- the most roads of the first so many lists
pub record AreFirstCounts (h : HierarchyValue) (counts : List ℕ) (count : ℕ) : Type 0 where
  pub long : length counts ≡ count
  pub right : AreCountedBelow h (slice_index counts) count

-- the first so many lists are short, or else not all are
abbrev pub CountsOn : HierarchyValue → List ℕ → ℕ → Bool → Type 0
CountsOn h counts count true = AreFirstCounts h counts count
CountsOn h counts count false = IsShort h → ⊥

-- all lists are short, or else not all are
abbrev pub CountsAll : HierarchyValue → List ℕ → Bool → Type 0
CountsAll h counts true = AreRoadCounts h counts
CountsAll h counts false = IsShort h → ⊥
