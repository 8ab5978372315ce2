-- How the ranks that are aimed at are gathered.
use Rattle.std.specs.Prelude.{ℕ, Bool, List, Some, true, false, ◌≡◌, ◌<◌, ◌≤◌, ◌⊎◌, All, slice_get, slice_index_or}
use Rattle.std.specs.List.{AllPairs, Contains}
use Rattle.cu_chordal.specs.Graphs.{ChordalValue, HasEdge}
use Rattle.cu_interval.specs.Hierarchies.{HierarchyValue}

-- a rank is marked
abbrev pub IsMarked : List Bool → ℕ → Type 0
IsMarked marks rank = slice_index_or marks rank false ≡ true

-- the ranks of these nodes are marked
abbrev pub AreMarked : HierarchyValue → List ℕ → List Bool → Type 0
AreMarked h nodes marks = (node rank : ℕ) → Contains nodes node → slice_get h.order.rank_of node ≡ Some rank → IsMarked marks rank

-- a rank was gathered, or it is still to come
abbrev pub IsAimed : ℕ → List Bool → List ℕ → ℕ → Type 0
IsAimed next marks path rank = Contains path rank ⊎ ((next ≤ rank) × IsMarked marks rank)

-- of the ranks below the next one those are gathered that were marked first or are higher neighbours of others, and the others are marked
pub record AreGathered (graph : ChordalValue) (first : List Bool) (next : ℕ) (marks : List Bool) (path : List ℕ) : Type 0 where
  pub below : All (λ rank. rank < next) path
  pub rising : AllPairs (λ a b. a < b) path
  pub upwards : (low high : ℕ) → Contains path low → HasEdge graph.edges low high → IsAimed next marks path high
  pub aimed : (rank : ℕ) → IsMarked first rank → IsAimed next marks path rank
