-- The least of several candidates at each second of a day, and which of them it is.
use Rattle.std.specs.Prelude.{ℕ, List, Option, Some, None, ◌≡◌, ◌≢◌, ◌≤◌, ◌<◌, ◌+◌, ◌-◌, ◌⊎◌, min, slice_get, length, if◌then◌else◌, nat_lt, All}
use Rattle.std.proofs.Common.{get_or}
use Rattle.std.specs.Option.{option_map}
use Rattle.std.specs.List.{AllAdjacentBelow}
use Rattle.cu_model.specs.Begun.{last_begun, Rises}
use Rattle.cu_model.specs.Days.{day}
use Rattle.cu_arrival.specs.declared.runs.Run.{Run}
use Rattle.cu_arrival.specs.Runs.{arrives}
use Rattle.cu_runs.specs.declared.merging.WayRun.{WayRun}
use Rattle.cu_runs.specs.declared.merging.TheConstants.{MOST, NOBODY}
use Rattle.cu_runs.specs.declared.windows.TheConstants.{NO_LIMIT, WINDOWS}
use Rattle.cu_runs.specs.declared.windows.Windows.{Windows}
use Rattle.cu_runs.specs.Windows.{IsIn}

-- a run beside the number of the candidate whose arrivals it says
abbrev pub Held : Type 0
Held = Run × ℕ

abbrev pub held_from : Held → ℕ
held_from held = held.0.from

-- the run in force at a second of the day
abbrev pub held_at : List Held → ℕ → Option Held
held_at held second = last_begun held_from held second

-- where no run is in force, which no merger lets happen, nobody arrives
abbrev pub arrival_of : Option Held → ℕ → ℕ
arrival_of None second = MOST
arrival_of (Some held) second = arrives held.0.rule second

abbrev pub way_of : Option Held → ℕ
way_of None = NOBODY
way_of (Some held) = held.1

-- the least arrival of the candidates, leaving on day 0 at this second
abbrev pub least_arrival : List Held → ℕ → ℕ
least_arrival held second = arrival_of (held_at held second) second

-- the number of the candidate that arrives then, the lowest of those that do
abbrev pub least_way : List Held → ℕ → ℕ
least_way held second = way_of (held_at held second)

-- leaving later on day 0, or at its end, never arrives earlier
pub record KeepsDayOrder (f : ℕ → ℕ) : Type 0 where
  pub in_day : (second : ℕ) → second + 1 < day → f second ≤ f (second + 1)
  pub midnight : f (day - 1) ≤ day + f 0

-- one where this number is lower than that of the least at a second, so that a tie goes to it
abbrev pub tie_with : List Held → ℕ → ℕ → ℕ
tie_with held way second = if nat_lt way (least_way held second) then 1 else 0

-- the number of the candidate that is the least at this second, where a further one arrives then: of those that
-- arrive as early the one with the lowest number
abbrev pub way_with : List Held → ℕ → ℕ → ℕ → ℕ
way_with held arrival way second =
    if nat_lt arrival (least_arrival held second + tie_with held way second) then way else least_way held second

-- the number of the run in force at a second of the day
abbrev pub way_in_force : List WayRun → ℕ → Option ℕ
way_in_force runs second =
    option_map (λ (run : WayRun). run.way) (last_begun (λ (run : WayRun). run.from) runs second)

-- The runs of the candidates' numbers: from second 0 of the day on, each from a later one than the one before
-- and differing from it, and at each second of the day the number of the candidate that is the least.
pub record IsWayRuns (held : List Held) (runs : List WayRun) : Type 0 where
  pub starts : option_map (λ (run : WayRun). run.from) (slice_get runs 0) ≡ Some 0
  pub limits : All (λ (run : WayRun). run.from < day) runs
  pub rises : Rises (λ (run : WayRun). run.from) runs
  pub differs : AllAdjacentBelow (λ (run next : WayRun). run.way ≢ next.way) runs (length runs)
  pub ways : (t : ℕ) → t < day → way_in_force runs t ≡ Some (least_way held t)

-- what a candidate's arrival makes of a merger's at a second
pub record IsAddedAt (old new : List Held) (number arrival t : ℕ) : Type 0 where
  pub least : least_arrival new t ≡ min (least_arrival old t) arrival
  pub chosen : least_way new t ≡ way_with old arrival number t

-- a merger is at a second what it was
pub record IsStillAt (old new : List Held) (t : ℕ) : Type 0 where
  pub least : least_arrival new t ≡ least_arrival old t
  pub chosen : least_way new t ≡ least_way old t

-- a candidate takes longer at a second than the limit of a window, where that has one
abbrev pub IsAbove : List ℕ → (ℕ → ℕ) → ℕ → ℕ → Type 0
IsAbove most f window t = (get_or most window 0 < NO_LIMIT) × (t + get_or most window 0 < f t)

-- at each second of the day a candidate is added, or it is left out and takes longer than the limit of the window
abbrev pub IsAddedWithin : Windows → List ℕ → (ℕ → ℕ) → ℕ → List Held → List Held → Type 0
IsAddedWithin windows most f number old new = (window t : ℕ) → window < WINDOWS → IsIn windows window t
    → IsAddedAt old new number (f t) t ⊎ (IsStillAt old new t × IsAbove most f window t)
