-- Ranks that a sweep goes down over, so that some nodes are reached.
use Rattle.std.specs.Prelude.{ℕ, List, Some, ◌≡◌, ◌<◌, All, slice_get}
use Rattle.std.specs.List.{AllPairs, Contains}
use Rattle.cu_chordal.specs.Graphs.{ChordalValue, HasEdge}
use Rattle.cu_interval.specs.Hierarchies.{HierarchyValue}

-- for how many nodes there is room, and the ranks that are aimed at
pub record AimValue : Type 0 where
  pub nodes : ℕ
  pub path : List ℕ

-- ranks of a graph that rise and, with a rank, have all its higher neighbours
pub record IsPath (graph : ChordalValue) (path : List ℕ) : Type 0 where
  pub below : All (λ rank. rank < graph.ranks) path
  pub rising : AllPairs (λ a b. a < b) path
  pub upwards : (low high : ℕ) → Contains path low → HasEdge graph.edges low high → Contains path high

-- the ranks of these nodes are on a path
abbrev pub HasRanks : HierarchyValue → List ℕ → List ℕ → Type 0
HasRanks h nodes path = (node rank : ℕ) → Contains nodes node → slice_get h.order.rank_of node ≡ Some rank → Contains path rank
