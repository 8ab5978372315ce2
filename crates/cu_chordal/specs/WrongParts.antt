-- Which parts of a graph in two lists are not those of the chordal supergraph.
use Rattle.std.specs.Prelude.{ℕ, List, Option, Some, None, ◌≡◌, ◌≢◌, ◌<◌, ◌+◌, ◌⊎◌, ◌↔◌, length, slice_index}
use Rattle.std.specs.List.{Contains}
use Rattle.std.specs.List.Sorted.{IsStrictlyIncreasing}
use Rattle.cu_model.specs.Networks.{NetworkValue}
use Rattle.cu_model.specs.Orders.{OrderValue}
use Rattle.cu_chordal.specs.Edges.{IsEdge}
use Rattle.cu_chordal.specs.Lists.{part_at}

-- the higher neighbours of a rank in the chordal supergraph, rising
pub record AreHigherNeighbours (g : NetworkValue) (o : OrderValue) (rank : ℕ) (part : List ℕ) : Type 0 where
  pub rising : IsStrictlyIncreasing part
  pub exact : (y : ℕ) → Contains part y ↔ ((rank < y) × IsEdge g o rank y)

-- the part of this rank ends before it starts, ends past the entries, or isn't the rank's higher neighbours
abbrev pub IsWrongBetween : NetworkValue → OrderValue → List ℕ → List ℕ → ℕ → Type 0
IsWrongBetween g o starts uppers rank =
    (slice_index starts (rank + 1) < slice_index starts rank) ⊎ (length uppers < slice_index starts (rank + 1))
    ⊎ (AreHigherNeighbours g o rank (part_at starts uppers rank) → ⊥)

-- the first part starts past the first entry, a rank's part is wrong, or behind the ranks the last part doesn't end with
-- the entries
abbrev pub IsWrongPart : NetworkValue → OrderValue → List ℕ → List ℕ → ℕ → Type 0
IsWrongPart g o starts uppers rank =
    ((rank ≡ 0) × (slice_index starts 0 ≢ 0))
    ⊎ ((rank < g.nodes) × IsWrongBetween g o starts uppers rank)
    ⊎ ((rank ≡ g.nodes) × (slice_index starts rank ≢ length uppers))

-- the least rank whose part is wrong, among the ranks and the number behind them
abbrev pub IsFirstWrong : NetworkValue → OrderValue → List ℕ → List ℕ → Option ℕ → Type 0
IsFirstWrong g o starts uppers None = (rank : ℕ) → IsWrongPart g o starts uppers rank → ⊥
IsFirstWrong g o starts uppers (Some rank) = IsWrongPart g o starts uppers rank × ((lower : ℕ) → lower < rank → IsWrongPart g o starts uppers lower → ⊥)
