-- A place among the edges of each rank, for look-ups of higher ranks that rise.
use Rattle.std.specs.Prelude.{ℕ, suc, List, ◌≤◌, ◌<◌, length, slice_index}
use Rattle.cu_pack.specs.Checks.{IsGraph}
use Rattle.cu_pack.specs.Reading.{counts_in, edge_start, upper_in}

-- a place among a rank's edges, or behind them: the edges before it lead lower than to this higher rank
pub record IsBefore (bytes : List ℕ) (low high place : ℕ) : Type 0 where
  pub from : edge_start bytes low ≤ place
  pub until : place ≤ edge_start bytes (suc low)
  pub lower : (edge : ℕ) → edge_start bytes low ≤ edge → edge < place → upper_in bytes edge < high

-- the last such place
pub record IsReaching (bytes : List ℕ) (low high place : ℕ) : Type 0 where
  pub before : IsBefore bytes low high place
  pub reaches : place < edge_start bytes (suc low) → high ≤ upper_in bytes place

-- there is such a place for each rank
pub record AreCursors (bytes : List ℕ) (high : ℕ) (places : List ℕ) : Type 0 where
  pub all : (counts_in bytes).nodes ≤ length places
  pub before : (low : ℕ) → low < (counts_in bytes).nodes → IsBefore bytes low high (slice_index places low)

-- an edge leads up from this rank
pub record LeadsUp (bytes : List ℕ) (edge low : ℕ) : Type 0 where
  pub inside : low < (counts_in bytes).nodes
  pub from : edge_start bytes low ≤ edge
  pub until : edge < edge_start bytes (suc low)

-- places that follow this rank, in a file whose graph is right
pub record IsFinder (bytes : List ℕ) (low : ℕ) (places : List ℕ) : Type 0 where
  pub graph : IsGraph bytes
  pub inside : low ≤ (counts_in bytes).nodes
  pub follow : AreCursors bytes low places
