-- Arrival functions: what a list of runs says about each second, and which lists are arrival functions.
use Rattle.std.specs.Prelude.{ℕ, List, Option, Some, None, ◌≡◌, ◌≢◌, ◌≤◌, ◌<◌, ◌+◌, ◌*◌, ◌/◌, ◌%◌, ◌^◌, slice_get, length, All}
use Rattle.std.specs.Option.{option_map}
use Rattle.std.specs.List.{AllAdjacentBelow}
use Rattle.cu_model.specs.Begun.{last_begun, Rises}
use Rattle.cu_model.specs.Days.{day, IsOnward, KeepsOrder}
use Rattle.cu_arrival.specs.declared.runs.Run.{Run}
use Rattle.cu_arrival.specs.declared.runs.RunRule.{RunRule}
use Rattle.cu_arrival.specs.declared.runs.RunRule.TheVariants.{Shift, Fixed}

-- when a rule arrives whose second is an absolute one, leaving at an absolute second
abbrev pub arrives : RunRule → ℕ → ℕ
arrives (Shift seconds) t = t + seconds
arrives (Fixed arrival) t = arrival

-- the last run that has begun by this second of the day
abbrev pub run_at : List Run → ℕ → Option Run
run_at runs second = last_begun (λ (run : Run). run.from) runs second

-- when a rule arrives, leaving on this day at this second of it
abbrev pub rule_value : RunRule → ℕ → ℕ → ℕ
rule_value (Shift seconds) days second = (day * days + second) + seconds
rule_value (Fixed arrival) days second = day * days + arrival

-- the same of a run; 0 where none has begun, which no arrival function lets happen
abbrev pub run_value : Option Run → ℕ → ℕ → ℕ
run_value None days second = 0
run_value (Some run) days second = rule_value run.rule days second

-- when these runs arrive, leaving at an absolute second
abbrev pub arrival_value : List Run → ℕ → ℕ
arrival_value runs t = run_value (run_at runs (t % day)) (t / day) (t % day)

-- the number that a rule names
abbrev pub rule_number : RunRule → ℕ
rule_number (Shift seconds) = seconds
rule_number (Fixed arrival) = arrival

abbrev pub IsRunInLimit : Run → Type 0
IsRunInLimit run = (run.from < day) × (rule_number run.rule ≤ 2 ^ 62)

-- An arrival function: runs within their limits, the first from second 0, each from a later second than the one before, that arrive
-- no earlier than they leave, let no later departure arrive earlier, midnight included, and, leaving on day 0, arrive by 2 ^ 62.
pub record IsArrivalFunction (runs : List Run) : Type 0 where
  pub limits : All IsRunInLimit runs
  pub starts : option_map (λ (run : Run). run.from) (slice_get runs 0) ≡ Some 0
  pub rises : Rises (λ (run : Run). run.from) runs
  pub onward : IsOnward (arrival_value runs)
  pub fifo : KeepsOrder (arrival_value runs)
  pub bounded : (second : ℕ) → second < day → arrival_value runs second ≤ 2 ^ 62

-- no two neighbouring runs say the same
abbrev pub IsCompact : List Run → Type 0
IsCompact runs = AllAdjacentBelow (λ (run next : Run). run.rule ≢ next.rule) runs (length runs)
