-- A candidate that is left out in windows in which it is late.
use Rattle.std.proofs.Common.{◌≡◌, ◌≤◌, ◌<◌, ◌+◌, ◌∙◌, ℕ, zero, suc, List, refl, sym, ap, subst, arith, inl, inr, get_or, min, ltb, true, false}
use Rattle.std.specs.Prelude.{nat_le, nat_lt, if◌then◌else◌}
use Rattle.std.proofs.lemmas.Bool.{cases_lt}
use Rattle.std.proofs.lemmas.Bool.Decides.{nat_tests}
use Rattle.cu_model.specs.Days.{day}
use Rattle.cu_model.proofs.Begun.{le_test, gt_test}
use Rattle.cu_runs.specs.declared.merging.Candidate.{Candidate}
use Rattle.cu_runs.specs.declared.merging.Least.{Least}
use Rattle.cu_runs.specs.declared.merging.Next.{Next}
use Rattle.cu_runs.specs.declared.windows.Limits.{Limits}
use Rattle.cu_runs.specs.declared.windows.TheConstants.{NO_LIMIT, WINDOWS}
use Rattle.cu_runs.specs.declared.windows.Windows.{Windows}
use Rattle.cu_runs.specs.Least.{Held, least_arrival, least_way, tie_with, way_with, IsAddedWithin}
use Rattle.cu_runs.specs.Steps.Merging.{IsMerging, IsSeen, least_held, IsLate}
use Rattle.cu_runs.specs.Windows.{IsIn, TakesInWindows, window_start}
use Rattle.cu_runs.specs.PackedRuns.{composed}
use Rattle.cu_runs.proofs.MergeLaws.{merging_later, not_below, tie_at_most}
use Rattle.cu_runs.proofs.WindowLaws.{starts_in_day, starts_rise, starts_between}

-- so late that a candidate doesn't win, under whatever number
abbrev pub too_late : List Held → ℕ → ℕ
too_late held s = least_arrival held s + 1

module _ (windows : Windows) where
  -- the window of a second between the starts of two
  pub window_found : (i j s : ℕ) → i ≤ j → window_start windows i ≤ s → s < window_start windows j → (window : ℕ) × (i ≤ window) × (window < j) × IsIn windows window s
  window_found i zero s order late early =
      let rise = starts_between windows i zero order in
      absurd (omega (arith, rise, late, early))
  window_found i (suc j) s order late early = elim (cases_lt s (window_start windows j)) [
    | inl before ↦ elim (cases_lt j i) [
      | inl lt ↦
          let rise = starts_between windows j i (omega (arith, lt)) in
          absurd (omega (arith, rise, late, before))
      | inr ge ↦
          let (window, from, until, inside) = window_found i j s ge late before in
          (window, from, omega (arith, until), inside)
    ]
    | inr after ↦ elim (cases_lt j i) [
      | inl lt ↦
          let rise = starts_between windows (suc j) i (omega (arith, lt)) in
          absurd (omega (arith, rise, late, early))
      | inr ge ↦
          let sum : suc j ≡ j + 1 = omega arith in
          (j, ge, omega arith, (after, subst (λ (n : ℕ). s < window_start windows n) sum early))
    ]
  ]

  module _ (lower most : List ℕ) (f old : ℕ → ℕ) where
    -- its arrivals as they are seen, by the last window that has begun
    seen_to : ℕ → ℕ → ℕ
    seen_to zero s = f s
    seen_to (suc n) s =
        if nat_le (window_start windows n) s then (if nat_lt (get_or most n 0) (min (get_or lower n 0) NO_LIMIT) then old s else f s) else seen_to n s

    seen_in : (n window s : ℕ) → window < n → IsIn windows window s
        → seen_to n s ≡ (if nat_lt (get_or most window 0) (min (get_or lower window 0) NO_LIMIT) then old s else f s)
    unfolding seen_to
    seen_in zero window s lt inside = absurd (omega (arith, lt))
    seen_in (suc n) window s lt inside = elim (cases_lt window n) [
      | inl before ↦
          let rise = starts_between windows (window + 1) n (omega (arith, before)) in
          let early = inside.1 in
          let test = gt_test (window_start windows n) s (omega (arith, rise, early)) in
          rw test (seen_in n window s before inside)
      | inr ge ↦
          let same : window ≡ n = omega (arith, lt, ge) in
          let begun : window_start windows n ≤ s = subst (λ (k : ℕ). window_start windows k ≤ s) same inside.0 in
          let test = le_test (window_start windows n) s begun in
          rw test (ap (λ (k : ℕ). if nat_lt (get_or most k 0) (min (get_or lower k 0) NO_LIMIT) then old s else f s) (sym same))
    ]

    pub seen : ℕ → ℕ
    seen = seen_to 32

    pub seen_late : (window s : ℕ) → window < WINDOWS → IsIn windows window s → IsLate lower most window → seen s ≡ old s
    unfolding seen
    seen_late window s inside within late =
        let test : ltb (get_or most window 0) (min (get_or lower window 0) NO_LIMIT) ≡ true = grind (arith, nat_tests, late) in
        seen_in 32 window s inside within ∙ (rw test refl)

    pub seen_linked : (window s : ℕ) → window < WINDOWS → IsIn windows window s → (IsLate lower most window → ⊥) → seen s ≡ f s
    unfolding seen
    seen_linked window s inside within early = elim (cases_lt (get_or most window 0) (min (get_or lower window 0) NO_LIMIT)) [
      | inl lt ↦ absurd (early lt)
      | inr ge ↦
          let test : ltb (get_or most window 0) (min (get_or lower window 0) NO_LIMIT) ≡ false = grind (arith, nat_tests, ge) in
          seen_in 32 window s inside within ∙ (rw test refl)
    ]

-- so a candidate is seen
pub is_seen : (limits : Limits) (candidate : Candidate) (l : Least)
    → IsSeen limits candidate l (seen limits.windows limits.lower.now limits.most.now (composed candidate.first.now candidate.second.now) (too_late (least_held l)))
is_seen limits candidate l =
    let f = composed candidate.first.now candidate.second.now in
    let old = too_late (least_held l) in
    record {
      late = λ window s inside within late.
          let same = seen_late limits.windows limits.lower.now limits.most.now f old window s inside within late in
          let tie = tie_at_most (least_held l) candidate.way s in
          omega (arith, same, tie);
      linked = seen_linked limits.windows limits.lower.now limits.most.now f old;
    }

module _ (limits : Limits) (candidate : Candidate) (l : Least) (arrival : ℕ → ℕ) (sees : IsSeen limits candidate l arrival) where
  -- a window in which it is late changes nothing
  pub merging_late : (n : Next) (window : ℕ) → window < WINDOWS → IsLate limits.lower.now limits.most.now window
      → IsMerging l arrival candidate.way n (window_start limits.windows window) → IsMerging l arrival candidate.way n (window_start limits.windows (window + 1))
  merging_late n window inside late is =
      merging_later l arrival candidate.way n (window_start limits.windows window) (window_start limits.windows (window + 1)) is (starts_rise limits.windows window)
      (λ s behind before. sees.late window s inside (behind, before) late)

  -- and in windows in which it isn't it arrives when it does
  pub linked_between : (first end s : ℕ) → first ≤ end → end ≤ WINDOWS → ((window : ℕ) → first ≤ window → window < end → IsLate limits.lower.now limits.most.now window → ⊥)
      → window_start limits.windows first ≤ s → s < window_start limits.windows end → arrival s ≡ composed candidate.first.now candidate.second.now s
  linked_between first end s order within early behind before =
      let (window, from, until, inside) = window_found limits.windows first end s order behind before in
      sees.linked window s (omega (arith, until, within)) inside (early window from until)

-- where it is left out it takes longer than the limit
pub added_within : (windows : Windows) (lower most : List ℕ) (f : ℕ → ℕ) (way : ℕ) (old new : List Held) → TakesInWindows windows f lower
    → ((t : ℕ) → t < day → (least_arrival new t ≡ min (least_arrival old t) (seen windows lower most f (too_late old) t))
    × (least_way new t ≡ way_with old (seen windows lower most f (too_late old) t) way t))
    → IsAddedWithin windows most f way old new
added_within windows lower most f way old new takes both window t inside within =
    let in_day = starts_in_day windows (window + 1) in
    let early = within.1 in
    let is = both t (omega (arith, in_day, early)) in
    elim (cases_lt (get_or most window 0) (min (get_or lower window 0) NO_LIMIT)) [
      | inl late ↦
          let same = seen_late windows lower most f (too_late old) window t inside within late in
          let value = is.0 in
          let tie = tie_at_most old way t in
          let test = not_below (too_late old t) (least_arrival old t + tie_with old way t) (omega (arith, tie)) in
          let bound = takes window inside t within.0 within.1 in
          inr (
            record {
              least = omega (arith, value, same);
              chosen = is.1 ∙ ap (λ (a : ℕ). way_with old a way t) same ∙ (rw test refl);
            },
            (omega (arith, late), omega (arith, late, bound)),
          )
      | inr ge ↦
          let same = seen_linked windows lower most f (too_late old) window t inside within (λ late. absurd (omega (arith, late, ge))) in
          inl record {
            least = is.0 ∙ ap (λ (a : ℕ). min (least_arrival old t) a) same;
            chosen = is.1 ∙ ap (λ (a : ℕ). way_with old a way t) same;
          }
    ]
