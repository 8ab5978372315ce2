-- Profiles, way lists and edges that stand one behind the other, each within all of them.
use Rattle.std.specs.Prelude.{ℕ, suc, List, Option, Some, None, ◌≡◌, ◌≢◌, ◌≤◌, ◌<◌, ◌+◌, ◌-◌, ◌*◌}
use Rattle.cu_model.specs.Profiles.{IsProfile}
use Rattle.cu_chordal.specs.declared.graph.TheConstants.{MAX_EDGES}
use Rattle.cu_interval.specs.WayLists.{IsWayList}
use Rattle.cu_pack.specs.Layouts.{uppers_at}
use Rattle.cu_pack.specs.Steps.Columns.{IsCountUpTo}
use Rattle.cu_pack.specs.Reading.{counts_in, edge_start, list_in, profile_in, profile_start, upper_in, way_start}

-- the pieces of a profile are there, and one
pub record HasProfile (bytes : List ℕ) (profile : ℕ) : Type 0 where
  pub inside : profile < (counts_in bytes).profiles
  pub order : profile_start bytes profile ≤ profile_start bytes (suc profile)
  pub within : profile_start bytes (suc profile) ≤ (counts_in bytes).pieces
  pub valid : IsProfile (profile_in bytes profile)

-- the entries of a list are there, and a way list
pub record HasList (bytes : List ℕ) (list : ℕ) : Type 0 where
  pub inside : list < 2 * (counts_in bytes).edges
  pub order : way_start bytes list ≤ way_start bytes (suc list)
  pub within : way_start bytes (suc list) ≤ (counts_in bytes).entries
  pub spelled : IsWayList (list_in bytes list)

-- the edges of a rank are there, and their higher ranks rise
pub record HasPart (bytes : List ℕ) (rank : ℕ) : Type 0 where
  pub inside : rank < (counts_in bytes).nodes
  pub order : edge_start bytes rank ≤ edge_start bytes (suc rank)
  pub within : edge_start bytes (suc rank) ≤ (counts_in bytes).edges
  pub few : (counts_in bytes).edges ≤ MAX_EDGES
  pub rising : (i j : ℕ) → edge_start bytes rank ≤ i → i < j → j < edge_start bytes (suc rank) → upper_in bytes i < upper_in bytes j

-- how many of a rank's edges lead no higher than to this rank
abbrev pub IsPartUpTo : List ℕ → (low high number : ℕ) → Type 0
IsPartUpTo bytes low high number =
    IsCountUpTo bytes (uppers_at (counts_in bytes) + 4 * edge_start bytes low) 4 (edge_start bytes (suc low) - edge_start bytes low) high number

-- no rank has fewer edges before it than a lower one, and the first has none
pub record StartsRise (bytes : List ℕ) : Type 0 where
  pub some : 0 < (counts_in bytes).nodes
  pub first : edge_start bytes 0 ≡ 0
  pub rising : (i j : ℕ) → i < j → j < (counts_in bytes).nodes → edge_start bytes i ≤ edge_start bytes j

-- the last rank that has no more edges before it than this number
pub record IsLowOf (bytes : List ℕ) (edge low : ℕ) : Type 0 where
  pub inside : low < (counts_in bytes).nodes
  pub begun : edge_start bytes low ≤ edge
  pub last : suc low < (counts_in bytes).nodes → edge < edge_start bytes (suc low)

-- the edge of a rank to this higher one, where there is one
abbrev pub FindsUpper : List ℕ → (low high : ℕ) → Option ℕ → Type 0
FindsUpper bytes low high None = (edge : ℕ) → edge_start bytes low ≤ edge → edge < edge_start bytes (suc low) → upper_in bytes edge ≢ high
FindsUpper bytes low high (Some edge) = (edge_start bytes low ≤ edge) × (edge < edge_start bytes (suc low)) × (upper_in bytes edge ≡ high)
