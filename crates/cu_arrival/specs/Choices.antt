-- Which of two arrival functions is the earlier, over a day.
use Rattle.std.specs.Prelude.{ℕ, List, Bool, Option, Some, ◌≡◌, ◌≢◌, ◌<◌, nat_lt, slice_get, length, All}
use Rattle.std.specs.Option.{option_map}
use Rattle.std.specs.List.{AllAdjacentBelow}
use Rattle.cu_model.specs.Begun.{last_begun, Rises}
use Rattle.cu_model.specs.Days.{day}
use Rattle.cu_arrival.specs.declared.runs.Run.{Run}
use Rattle.cu_arrival.specs.declared.runs.Choice.{Choice}
use Rattle.cu_arrival.specs.Runs.{arrival_value}

-- the last choice that has begun by this second of the day
abbrev pub choice_at : List Choice → ℕ → Option Choice
choice_at choices second = last_begun (λ (choice : Choice). choice.from) choices second

-- whether that choice is the second function
abbrev pub second_at : List Choice → ℕ → Option Bool
second_at choices second = option_map (λ (choice : Choice). choice.second) (choice_at choices second)

-- whether the second function arrives strictly earlier, leaving at this second
abbrev pub is_second : List Run → List Run → ℕ → Bool
is_second first second t = nat_lt (arrival_value second t) (arrival_value first t)

-- The choices between two functions: from second 0 on, each from a later second than the one before and differing from it, and at
-- each second of the day the second function's exactly where it is strictly earlier.
pub record IsChoices (first second : List Run) (choices : List Choice) : Type 0 where
  pub limits : All (λ (choice : Choice). choice.from < day) choices
  pub starts : option_map (λ (choice : Choice). choice.from) (slice_get choices 0) ≡ Some 0
  pub rises : Rises (λ (choice : Choice). choice.from) choices
  pub alternates : AllAdjacentBelow (λ (choice next : Choice). choice.second ≢ next.second) choices (length choices)
  pub earlier : (t : ℕ) → t < day → second_at choices t ≡ Some (is_second first second t)
