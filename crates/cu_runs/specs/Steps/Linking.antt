-- Composing two functions: the run of the second that is in force where the first arrives, and what is linked so far.
use Rattle.std.specs.Prelude.{ℕ, List, ◌≡◌, ◌≤◌, ◌<◌, ◌+◌, ◌%◌, slice_get, Some}
use Rattle.cu_model.specs.Days.{day}
use Rattle.cu_arrival.specs.declared.runs.Run.{Run}
use Rattle.cu_arrival.specs.declared.runs.RunRule.{RunRule}
use Rattle.cu_arrival.specs.declared.runs.RunRule.TheVariants.{Shift, Fixed}
use Rattle.cu_arrival.specs.Runs.{arrival_value, arrives}
use Rattle.cu_model.proofs.Tiling.{IsTiled}
use Rattle.cu_runs.specs.declared.linking.Reached.{Reached}

-- a rule after a drive of so many seconds; what is fixed arrives on the day that begins at midnight
abbrev pub after_shift : RunRule → ℕ → ℕ → RunRule
after_shift (Shift more) seconds midnight = Shift (more + seconds)
after_shift (Fixed arrival) seconds midnight = Fixed (arrival + midnight)

-- a rule after an arrival at this second
abbrev pub after_arrival : RunRule → ℕ → ℕ → RunRule
after_arrival (Shift more) second midnight = Fixed (more + second)
after_arrival (Fixed arrival) second midnight = Fixed (arrival + midnight)

-- the run of this index holds from `t` or an earlier second until the place's end
pub record IsReached (packed : List Run) (place : Reached) (t : ℕ) : Type 0 where
  pub whole : place.midnight % day ≡ 0
  pub begun : (run : Run) × (slice_get packed place.index ≡ Some run)
      × (place.midnight + run.from ≤ t)
  pub next : (run : Run) × (slice_get packed (place.index + 1) ≡ Some run)
      × (place.end ≡ place.midnight + run.from)

-- a run that arrives when a function does, leaving at this second
abbrev pub Says : (ℕ → ℕ) → Run → ℕ → Type 0
Says f run s = arrives run.rule s ≡ f s

-- runs that say a function at all seconds before this one
abbrev pub IsSaid : (ℕ → ℕ) → List Run → ℕ → Type 0
IsSaid f runs t = IsTiled (λ (run : Run). run.from) (Says f) runs t

-- runs that say a function before `from` are continued by such as say it before `until`, where from
-- `from` on it is what the second function makes of the first rule's arrivals
abbrev pub Continues : List Run → (ℕ → ℕ) → ℕ → ℕ → List Run → List Run → Type 0
Continues second first from until old new =
    (f : ℕ → ℕ) → IsSaid f old from
    → ((s : ℕ) → from ≤ s → s < until → f s ≡ arrival_value second (first s))
    → IsSaid f new until

-- runs that say a function at all seconds before `from`, where its arrivals are its departures
abbrev pub Begins : ℕ → List Run → Type 0
Begins from runs = (f : ℕ → ℕ) → ((s : ℕ) → s < from → f s ≡ s) → IsSaid f runs from
