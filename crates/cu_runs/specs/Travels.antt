-- How long a function takes, over the day.
use Rattle.std.specs.Prelude.{ℕ, List, Option, Some, None, ◌≡◌, ◌≤◌, ◌<◌, ◌+◌}
use Rattle.cu_model.specs.Days.{day}
use Rattle.cu_arrival.specs.declared.runs.Run.{Run}
use Rattle.cu_arrival.specs.Runs.{arrival_value}

-- it takes no less, over the day
abbrev pub TakesAtLeast : List Run → ℕ → Type 0
TakesAtLeast packed least = (t : ℕ) → t < day → t + least ≤ arrival_value packed t

-- and no more
abbrev pub TakesAtMost : List Run → ℕ → Type 0
TakesAtMost packed most = (t : ℕ) → t < day → arrival_value packed t ≤ t + most

-- it takes so long at some second of the day
abbrev pub Takes : List Run → ℕ → Type 0
Takes packed travel = (t : ℕ) × (t < day) × (arrival_value packed t ≡ t + travel)

-- two functions that, each at some second of a day, take longer than this together
abbrev pub TakeLonger : ℕ → Option (ℕ → ℕ) → Option (ℕ → ℕ) → Type 0
TakeLonger most (Some first) (Some second) = (t s : ℕ) × (t < day) × (s < day) × ((t + s) + most < first t + second s)
TakeLonger most None second = ⊥
TakeLonger most (Some first) None = ⊥
