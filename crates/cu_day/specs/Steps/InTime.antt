-- Which arcs may be in time for the end, at some second of the day.
use Rattle.std.specs.Prelude.{ℕ, List, Option, Some, None, ◌≡◌, ◌≤◌, ◌<◌, ◌+◌, ◌^◌, ◌⊎◌, slice_get}
use Rattle.cu_model.specs.Days.{day}
use Rattle.cu_arrival.specs.declared.runs.Run.{Run}
use Rattle.cu_arrival.specs.Runs.{arrival_value}
use Rattle.cu_interval.specs.declared.ways.Dir.{Dir}
use Rattle.cu_interval.specs.declared.ways.Dir.TheVariants.{Up, Down}
use Rattle.cu_sweep.specs.Outlooks.{OutlookValue, ahead_at}
use Rattle.cu_day.specs.Steps.Sweeping.{label_at}

-- a limit that isn't late at any second of the day
abbrev pub IsEarly : List Run → Type 0
IsEarly by = (t : ℕ) → t < day → arrival_value by t < 2 ^ 61

-- a rank that is reached at a second is in time, with what is at least still to go from it
abbrev pub InTime : List Run → List ℕ → ℕ → ℕ → ℕ → Type 0
InTime by ahead t rank second = second + ahead_at ahead rank ≤ arrival_value by t

-- what is at least still to go from each rank, where it is reached in a direction
abbrev pub ahead_in : OutlookValue → Dir → List ℕ
ahead_in outlook Up = outlook.up
ahead_in outlook Down = outlook.down

-- by no more than these seconds is the limit later than the labels
abbrev pub AreSlacks : List Run → List (Option (List Run)) → List ℕ → Type 0
AreSlacks by labels slacks = (t rank slack b : ℕ) → t < day → slice_get slacks rank ≡ Some slack → label_at labels t rank ≡ Some b
    → arrival_value by t < b + slack

-- what stands is no later than what takes so long behind a label
abbrev pub IsNoEarlier : List Run → ℕ → Option (List Run) → Type 0
IsNoEarlier label bound None = ⊥
IsNoEarlier label bound (Some standing) = (t : ℕ) → t < day → arrival_value standing t ≤ arrival_value label t + bound

-- an arc that takes at least so long is at each second of the day too late for the end, or no earlier than what stands
abbrev pub LeavesArc : List Run → List ℕ → ℕ → ℕ → ℕ → List (Option (List Run)) → Type 0
LeavesArc by ahead bound x y labels = (t b : ℕ) → t < day → label_at labels t x ≡ Some b
    → (arrival_value by t < b + (bound + ahead_at ahead y)) ⊎ ((a : ℕ) × (label_at labels t y ≡ Some a) × (a ≤ b + bound))
