-- Merging a candidate into the least so far, from second 0 on.
use Rattle.std.specs.Prelude.{ℕ, List, [], ◌∷◌, ◌++◌, Some, ◌≡◌, ◌≤◌, ◌<◌, ◌+◌, ◌-◌, ◌⊎◌, min, slice_get, length}
use Rattle.std.proofs.Common.{get_or}
use Rattle.std.specs.List.{zip}
use Rattle.cu_model.specs.Days.{day}
use Rattle.cu_arrival.specs.declared.runs.Run.{Run}
use Rattle.cu_arrival.specs.Runs.{arrives}
use Rattle.cu_model.proofs.Tiling.{IsTiled}
use Rattle.cu_runs.specs.declared.merging.Candidate.{Candidate}
use Rattle.cu_runs.specs.declared.merging.Least.{Least}
use Rattle.cu_runs.specs.declared.merging.Next.{Next}
use Rattle.cu_runs.specs.declared.windows.Limits.{Limits}
use Rattle.cu_runs.specs.declared.windows.TheConstants.{NO_LIMIT, WINDOWS}
use Rattle.cu_runs.specs.Windows.{IsIn}
use Rattle.cu_runs.specs.PackedRuns.{IsDayList, composed}
use Rattle.cu_runs.specs.Least.{Held, held_from, held_at, least_arrival, tie_with, way_with}

-- the runs of the least so far beside their candidates' numbers
abbrev pub least_held : Least → List Held
least_held least = zip least.packed.items least.ways.items

abbrev pub next_held : Next → List Held
next_held next = zip next.packed.items next.ways.items

-- two lists of runs over the day and of their candidates' numbers
pub record IsHeld (least : Least) : Type 0 where
  pub over_day : IsDayList least.packed.items
  pub even : length least.ways.items ≡ length least.packed.items

-- the list being made is one of pairs, and the old list's run of its index begins by the second that
-- it has come to
pub record IsNext (least : Least) (next : Next) : Type 0 where
  pub even : length next.ways.items ≡ length next.packed.items
  pub begun : (run : Run) × (slice_get least.packed.items next.index ≡ Some run)
      × (run.from ≤ next.done)
  pub following : next.index + 1 < length least.packed.items
  pub in_day : next.done ≤ day

-- a run and a number that say what is the least where a candidate arrives by this function
abbrev pub SaysMerged : Least → (ℕ → ℕ) → ℕ → Held → ℕ → Type 0
SaysMerged least arrival way held s =
    (arrives held.0.rule s ≡ min (least_arrival (least_held least) s) (arrival s))
    × (held.1 ≡ way_with (least_held least) (arrival s) way s)

-- a run and a number that say when a candidate arrives by this function, and that it is the one
abbrev pub SaysAlone : (ℕ → ℕ) → ℕ → Held → ℕ → Type 0
SaysAlone arrival way held s = (arrives held.0.rule s ≡ arrival s) × (held.1 ≡ way)

-- so do the runs of the list being made, all day
abbrev pub IsAlone : (ℕ → ℕ) → ℕ → Next → Type 0
IsAlone arrival way next = IsTiled held_from (SaysAlone arrival way) (next_held next) day

-- at all seconds before `t` the list being made is right as far as it has come, and from there on the
-- candidate is no earlier, nor as early under a lower number
pub record IsMerging (least : Least) (arrival : ℕ → ℕ) (way : ℕ)
    (next : Next) (t : ℕ) : Type 0 where
  pub order : next.done ≤ t
  pub merged : IsTiled held_from (SaysMerged least arrival way) (next_held next) next.done
  pub held : (s : ℕ) → next.done ≤ s → s < t
      → least_arrival (least_held least) s + tie_with (least_held least) way s ≤ arrival s

-- what was right before `from` is right before `until`, of whatever candidate with this number has
-- these arrivals between
abbrev pub Merges : Least → ℕ → ℕ → (ℕ → ℕ) → ℕ → Next → Next → Type 0
Merges least from until here way old new =
    (arrival : ℕ → ℕ) → ((s : ℕ) → from ≤ s → s < until → arrival s ≡ here s)
    → IsMerging least arrival way old from → IsMerging least arrival way new until

-- the last item has the same rule and number, or it is put behind it
abbrev pub Puts : List Held → Held → List Held → Type 0
Puts old x new =
    ((y : Held) × (slice_get old (length old - 1) ≡ Some y) × (y.0.rule ≡ x.0.rule)
    × (y.1 ≡ x.1) × (new ≡ old))
    ⊎ (new ≡ old ++ x ∷ [])

-- the run of this index is from before a second, and another follows it
abbrev pub IsBefore : List Run → ℕ → ℕ → Type 0
IsBefore packed index second =
    (run next : Run) × (slice_get packed index ≡ Some run)
    × (slice_get packed (index + 1) ≡ Some next) × (run.from < second)

-- the list being made, right up to the run behind that of an index, is right before `until`, where
-- from there on the candidate is no earlier, nor as early under a lower number
abbrev pub CopiesBehind : Least → ℕ → ℕ → Next → Next → Type 0
CopiesBehind least first until old new =
    (arrival : ℕ → ℕ) (way : ℕ) (next : Run) → slice_get least.packed.items (first + 1) ≡ Some next
    → ((s : ℕ) → next.from ≤ s → s < until
    → least_arrival (least_held least) s + tie_with (least_held least) way s ≤ arrival s)
    → IsTiled held_from (SaysMerged least arrival way) (next_held old) (min next.from until)
    → IsTiled held_from (SaysMerged least arrival way) (next_held new) until

-- two lists over the day that say what is the least where a candidate arrives by this function
pub record IsMerged (least : Least) (arrival : ℕ → ℕ) (way : ℕ)
    (packed : List Run) (ways : List ℕ) : Type 0 where
  pub over_day : IsDayList packed
  pub even : length ways ≡ length packed
  pub says : (t : ℕ) → t < day → (held : Held) × (held_at (zip packed ways) t ≡ Some held)
      × SaysMerged least arrival way held t

-- in this window one takes longer than another takes at most, where that is a limit
abbrev pub IsLate : List ℕ → List ℕ → ℕ → Type 0
IsLate lower most window = get_or most window 0 < min (get_or lower window 0) NO_LIMIT

-- A candidate's arrivals as they are seen where it is left out in windows in which it is late: there it is no earlier
-- than the least, nor as early under a lower number, and in the others it arrives when it does.
pub record IsSeen (limits : Limits) (candidate : Candidate) (least : Least) (arrival : ℕ → ℕ) : Type 0 where
  pub late : (window s : ℕ) → window < WINDOWS → IsIn limits.windows window s → IsLate limits.lower.now limits.most.now window
      → least_arrival (least_held least) s + tie_with (least_held least) candidate.way s ≤ arrival s
  pub linked : (window s : ℕ) → window < WINDOWS → IsIn limits.windows window s → (IsLate limits.lower.now limits.most.now window → ⊥)
      → arrival s ≡ composed candidate.first.now candidate.second.now s

-- what is right before one second is right before another, of whatever arrivals a candidate is seen with
abbrev pub MergesSeen : Limits → Candidate → Least → ℕ → ℕ → Next → Next → Type 0
MergesSeen limits candidate least from until old new =
    (arrival : ℕ → ℕ) → IsSeen limits candidate least arrival
    → IsMerging least arrival candidate.way old from → IsMerging least arrival candidate.way new until
