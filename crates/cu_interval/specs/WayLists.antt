-- Lists of ways: which way a shortcut takes from which second of the day on.
use Rattle.std.specs.Prelude.{ℕ, List, [], ◌∷◌, Option, Some, None, ◌≡◌, ◌≢◌, ◌<◌, ◌⊎◌, ◌%◌, length, All}
use Rattle.std.specs.Option.{option_map}
use Rattle.std.specs.List.{AllAdjacentBelow}
use Rattle.cu_model.specs.Begun.{last_begun}
use Rattle.cu_model.specs.Days.{day}
use Rattle.cu_interval.specs.declared.ways.Way.{Way}
use Rattle.cu_interval.specs.declared.ways.Way.TheVariants.{Road, Via}
use Rattle.cu_interval.specs.declared.ways.Entry.{Entry}

-- the last entry that has begun by this second of the day
abbrev pub entry_in : List Entry → ℕ → Option Entry
entry_in entries second = last_begun (λ (entry : Entry). entry.from) entries second

-- its way
abbrev pub way_in : List Entry → ℕ → Option Way
way_in entries second = option_map (λ (entry : Entry). entry.way) (entry_in entries second)

-- the way at an absolute second: a list repeats by whole days
abbrev pub way_at : List Entry → ℕ → Option Way
way_at entries t = way_in entries (t % day)

-- a list that isn't empty begins at second 0
abbrev pub BeginsAtZero : List Entry → Type 0
BeginsAtZero [] = Unit {0}
BeginsAtZero (entry ∷ entries) = entry.from ≡ 0

-- the next entry begins later, with another way
abbrev pub Turns : Entry → Entry → Type 0
Turns entry next = (entry.from < next.from) × (entry.way ≢ next.way)

-- a way list: entries from rising seconds of the day, the first from 0, no two adjacent ways equal
pub record IsWayList (entries : List Entry) : Type 0 where
  pub begins : BeginsAtZero entries
  pub within : All (λ (entry : Entry). entry.from < day) entries
  pub turns : AllAdjacentBelow Turns entries (length entries)

-- which of two different ways goes first: roads by number, then middles by rank
abbrev pub GoesFirst : Way → Way → Type 0
GoesFirst (Road a) (Road b) = a < b
GoesFirst (Road a) (Via m) = Unit {0}
GoesFirst (Via m) (Road a) = ⊥
GoesFirst (Via m) (Via n) = m < n

-- among the ways that are candidates, and arrive when they are said to, the first that arrives earliest
pub record IsFirstEarliest (IsCandidate : Way → Type 0) (Arrives : Way → ℕ → Type 0) (way : Way) : Type 0 where
  pub candidate : IsCandidate way
  pub arrival : ℕ
  pub arrives : Arrives way arrival
  pub first : (other : Way) (later : ℕ) → IsCandidate other → Arrives other later
      → (arrival < later) ⊎ ((arrival ≡ later) × ((way ≡ other) ⊎ GoesFirst way other))

-- the maximal runs of the first earliest ways over the seconds of a day; empty where no way is a candidate
pub record IsRunsOf (IsCandidate : Way → Type 0) (Arrives : ℕ → Way → ℕ → Type 0) (entries : List Entry) : Type 0 where
  pub spelled : IsWayList entries
  pub first : (second : ℕ) (way : Way) → second < day → way_in entries second ≡ Some way → IsFirstEarliest IsCandidate (Arrives second) way
  pub none : entries ≡ [] → (way : Way) → IsCandidate way → ⊥

-- whether entries are a way list, and the list where they are
abbrev pub FindsWayList : List Entry → Option (List Entry) → Type 0
FindsWayList entries None = IsWayList entries → ⊥
FindsWayList entries (Some list) = (list ≡ entries) × IsWayList entries
