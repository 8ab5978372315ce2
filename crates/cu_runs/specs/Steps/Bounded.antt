-- What is known of a function in one window of the day.
use Rattle.std.specs.Prelude.{ℕ, List, Option, Some, None, slice_get, ◌≡◌, ◌≤◌, ◌<◌, ◌+◌, ◌-◌, ◌*◌, ◌%◌, ◌^◌, nat_lt, if◌then◌else◌}
use Rattle.std.specs.Box.{box_value}
use Rattle.std.specs.Global.{Box}
use Rattle.std.proofs.Common.{get_or}
use Rattle.cu_model.specs.Days.{day}
use Rattle.cu_arrival.specs.declared.runs.Run.{Run}
use Rattle.cu_arrival.specs.Runs.{arrival_value}
use Rattle.cu_runs.specs.declared.windows.TheConstants.{NO_LIMIT, UNKNOWN, WINDOWS}
use Rattle.cu_runs.specs.declared.windows.Bounds.{Bounds}
use Rattle.cu_runs.specs.declared.windows.Span.{Span}
use Rattle.cu_runs.specs.declared.windows.Window.{Window}
use Rattle.cu_runs.specs.declared.windows.Windows.{Windows}
use Rattle.cu_runs.specs.Travels.{Takes, TakesAtLeast, TakesAtMost}
use Rattle.cu_runs.specs.PackedRuns.{IsPackedFunction, composed}
use Rattle.cu_runs.specs.Windows.{TakesBetween, TakesUpToBetween, window_start}

-- A reach is some windows, one behind the other: below 32 a window and the next one, below 64 the window of 32 less and
-- the next three, and 64 is the day. Windows behind the last one are empty.
abbrev pub reach_span : ℕ → ℕ
reach_span reach = if nat_lt reach WINDOWS then 2 else if nat_lt reach (2 * WINDOWS) then 4 else WINDOWS

abbrev pub reach_start : Windows → ℕ → ℕ
reach_start windows reach = window_start windows (reach % WINDOWS)

abbrev pub reach_end : Windows → ℕ → ℕ
reach_end windows reach = window_start windows (reach % WINDOWS + reach_span reach)

-- who leaves between arrives on one day, within a reach
abbrev pub Reaches : Windows → (ℕ → ℕ) → ℕ → ℕ → ℕ → Type 0
Reaches windows f from until reach =
    (days : ℕ) × ((t : ℕ) → from ≤ t → t < until → (days * day + reach_start windows reach ≤ f t) × (f t < days * day + reach_end windows reach))

-- on one day all these seconds are within a reach, unless it's the whole day
abbrev pub IsReach : Windows → ℕ → ℕ → ℕ → Type 0
IsReach windows first last reach =
    (reach ≤ 2 * WINDOWS) × (reach < 2 * WINDOWS → (last < 2 ^ 64 - 1) × ((days : ℕ) × (days * day + reach_start windows reach ≤ first) × (last < days * day + reach_end windows reach)))

-- from one second until another it takes no more, unless this is the number for what isn't known
abbrev pub TakesIfKnown : (ℕ → ℕ) → ℕ → ℕ → ℕ → Type 0
TakesIfKnown f from until most = most < UNKNOWN → TakesUpToBetween f from until most

-- what it takes from one second until another, at least and at most
pub record IsSpan (f : ℕ → ℕ) (from until : ℕ) (span : Span) : Type 0 where
  pub slower : TakesBetween f from until span.least
  pub faster : TakesIfKnown f from until span.most

-- the span at a place of a list: none is read behind its end
abbrev pub span_at : List Span → ℕ → Span
span_at spans i = get_or spans i (record { least = 0; most = 0 })

-- what it takes in each window
abbrev pub AreSpans : Windows → (ℕ → ℕ) → List Span → Type 0
AreSpans windows f own = (i : ℕ) → i < WINDOWS → IsSpan f (window_start windows i) (window_start windows (i + 1)) (span_at own i)

-- and over each reach
abbrev pub AreReaches : Windows → (ℕ → ℕ) → List Span → Type 0
AreReaches windows f over = (i : ℕ) → i ≤ 2 * WINDOWS → IsSpan f (reach_start windows i) (reach_end windows i) (span_at over i)

pub record IsWindow (windows : Windows) (f : ℕ → ℕ) (number : ℕ) (window : Window) : Type 0 where
  pub span : IsSpan f (window_start windows number) (window_start windows (number + 1)) window.span
  pub is_reach : window.reach ≤ 2 * WINDOWS
  pub reach : window.reach < 2 * WINDOWS → Reaches windows f (window_start windows number) (window_start windows (number + 1)) window.reach

-- what is kept of a window
abbrev pub window_in : Bounds → ℕ → Window
window_in bounds i = record { span = span_at bounds.own i; reach = get_or bounds.reach i 0 }

-- what is known of a function in the first windows, so many
abbrev pub AreWindows : Windows → (ℕ → ℕ) → Bounds → ℕ → Type 0
AreWindows windows f bounds count = (i : ℕ) → i < count → IsWindow windows f i (window_in bounds i)

-- in each of its windows, and over each reach
pub record AreBounds (f : ℕ → ℕ) (bounds : Bounds) : Type 0 where
  pub windows : AreWindows bounds.windows f bounds WINDOWS
  pub over : AreReaches bounds.windows f bounds.over

-- so it is where there are bounds
abbrev pub AreKnown : (ℕ → ℕ) → Option (Box Bounds) → Type 0
AreKnown f None = Unit {0}
AreKnown f (Some bounds) = AreBounds f (box_value bounds)

-- a second of the day within a reach
abbrev pub IsWithinReach : Windows → ℕ → ℕ → Type 0
IsWithinReach windows reach s = (reach_start windows reach ≤ s) × (s < reach_end windows reach)

-- from one second until another it takes no more, where this is a limit
abbrev pub IsUpper : (ℕ → ℕ) → ℕ → ℕ → ℕ → Type 0
IsUpper f from until most = most < NO_LIMIT → TakesUpToBetween f from until most

-- what is so, in a window, of a function together with one behind it, whichever two these are bounds of
abbrev pub IsOfBoth : ((ℕ → ℕ) → ℕ → ℕ → Type 0) → Bounds → Bounds → ℕ → Type 0
IsOfBoth Holds bounds second window = (first behind : List Run) → IsPackedFunction behind → AreBounds (arrival_value first) bounds → AreBounds (arrival_value behind) second
    → Holds (composed first behind) (window_start bounds.windows window) (window_start bounds.windows (window + 1))

-- a function with what it takes
pub record IsTravelled (packed : List Run) (least most : ℕ) (bounds : Option (Box Bounds)) : Type 0 where
  pub function : IsPackedFunction packed
  pub slower : TakesAtLeast packed least
  pub faster : TakesAtMost packed most
  pub taken : Takes packed most
  pub known : AreKnown (arrival_value packed) bounds

-- the run of an index holds at a second
pub record IsAt (packed : List Run) (i t : ℕ) : Type 0 where
  pub begun : (run : Run) × (slice_get packed i ≡ Some run) × (run.from ≤ t)
  pub lasts : (next : Run) → slice_get packed (i + 1) ≡ Some next → t < next.from
  pub in_day : t ≤ day
