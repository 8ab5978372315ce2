-- What is kept of a query's outlook: what is at least still to go to its end.
use Rattle.std.specs.Prelude.{ℕ, List, Some, ◌≡◌, ◌≤◌, ◌+◌, slice_index_or, All}
use Rattle.std.specs.List.{Contains}
use Rattle.cu_chordal.specs.Graphs.{ChordalValue}
use Rattle.cu_elimtree.specs.SweepArcs.{ancestors_in}
use Rattle.cu_interval.specs.declared.ways.Dir.{Dir}
use Rattle.cu_interval.specs.declared.ways.Dir.TheVariants.{Up, Down}
use Rattle.cu_interval.specs.Hierarchies.{HierarchyValue, graph_of, number_from}
use Rattle.cu_interval.specs.LeastBounds.{far, least_bound}

-- for how many nodes, and what is at least still to go to the end from each rank, upwards and then downwards, or downwards alone
pub record OutlookValue : Type 0 where
  pub nodes : ℕ
  pub up : List ℕ
  pub down : List ℕ

-- what is at least still to go from a rank; nothing where there is no such rank
abbrev pub ahead_at : List ℕ → ℕ → ℕ
ahead_at ahead rank = slice_index_or ahead rank 0

-- nothing is said to be further than `far`
abbrev pub IsNear : List ℕ → Type 0
IsNear ahead = All (λ seconds. seconds ≤ far) ahead

-- what is still to go, upwards and then downwards, falls by no more than the bound of a call over an edge
pub record FallsBy (bound : ℕ → Dir → ℕ) (graph : ChordalValue) (from to : ℕ) (up down : List ℕ) : Type 0 where
  pub climb : (x y edge : ℕ) → Contains (ancestors_in graph from) x → number_from 0 graph.edges x y ≡ Some edge
      → ahead_at up x ≤ bound edge Up + ahead_at up y
  pub turn : (x : ℕ) → Contains (ancestors_in graph to) x → ahead_at up x ≤ ahead_at down x
  pub fall : (x y edge : ℕ) → Contains (ancestors_in graph to) x → number_from 0 graph.edges x y ≡ Some edge
      → ahead_at down y ≤ bound edge Down + ahead_at down x
  pub end : ahead_at down to ≡ 0

-- what is still to go, upwards and then downwards, falls by no more than the least bound of a call
pub record IsAhead (h : HierarchyValue) (from to : ℕ) (up down : List ℕ) : Type 0 where
  pub climb : (x y edge : ℕ) → Contains (ancestors_in (graph_of h) from) x → number_from 0 h.edges x y ≡ Some edge
      → ahead_at up x ≤ least_bound h edge Up + ahead_at up y
  pub turn : (x : ℕ) → Contains (ancestors_in (graph_of h) to) x → ahead_at up x ≤ ahead_at down x
  pub fall : (x y edge : ℕ) → Contains (ancestors_in (graph_of h) to) x → number_from 0 h.edges x y ≡ Some edge
      → ahead_at down y ≤ least_bound h edge Down + ahead_at down x
  pub end : ahead_at down to ≡ 0
