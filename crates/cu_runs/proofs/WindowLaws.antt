-- How long a function takes in each window of the day, and where a candidate is late.
use Rattle.std.proofs.Common.{◌≡◌, ◌≢◌, ◌≤◌, ◌<◌, ◌+◌, ◌-◌, ◌*◌, ◌%◌, ◌^◌, ◌∙◌, ℕ, zero, suc, List, Some, refl, true, false, ltb, sym, ap, subst, arith, inl, inr, length, get_or, min, max}
use Rattle.std.specs.Prelude.{slice_get}
use Rattle.std.proofs.lemmas.Bool.{cases_lt}
use Rattle.std.proofs.lemmas.Bool.Decides.{nat_tests}
use Rattle.cu_model.specs.Days.{day, IsOnward}
use Rattle.cu_model.proofs.DayLaws.{day_parts}
use Rattle.cu_arrival.specs.declared.runs.Run.{Run}
use Rattle.cu_arrival.specs.declared.runs.RunRule.{RunRule}
use Rattle.cu_arrival.specs.declared.runs.RunRule.TheVariants.{Shift, Fixed}
use Rattle.cu_arrival.specs.Runs.{arrival_value, arrives}
use Rattle.cu_runs.specs.declared.windows.Span.{Span}
use Rattle.cu_runs.specs.declared.windows.TheConstants.{WIDTHS, WINDOWS}
use Rattle.cu_runs.specs.declared.windows.Window.{Window}
use Rattle.cu_runs.specs.declared.windows.Windows.{Windows}
use Rattle.cu_runs.specs.Steps.Bounded.{IsAt, IsReach, IsSpan, IsUpper, IsWindow, IsWithinReach, Reaches, reach_end, reach_span, reach_start}
use Rattle.cu_runs.specs.Windows.{AreLowered, AreStarts, IsIn, IsLowered, TakesBetween, TakesUpToBetween, window_start}
use Rattle.cu_runs.specs.PackedRuns.{IsDayList, IsPackedFunction, composed}
use Rattle.cu_runs.proofs.CompareLaws.{at_next, at_stepped, at_value}
use Rattle.cu_runs.proofs.MergeLaws.{read_there}
use Rattle.cu_runs.proofs.DayLists.{repeats}
use Rattle.cu_runs.proofs.TravelLaws.{travel_least}

travel_most : (r : RunRule) (from t : ℕ) → from ≤ t → arrives r t ≤ t + (arrives r from - from)
travel_most (Shift d) from t h = omega (arith, h)
travel_most (Fixed c) from t h = omega (arith, h)

-- how long the function takes from one second to another, as far as this is known
pub record IsTravelling (packed : List Run) (from until index at least most : ℕ) : Type 0 where
  pub order : (from ≤ at) × (at ≤ until)
  pub held : IsAt packed index at
  pub slower : IsOnward (arrival_value packed) → TakesBetween (arrival_value packed) from at least
  pub faster : TakesUpToBetween (arrival_value packed) from at most

pub travelling_none : (packed : List Run) (from until index least most : ℕ) → from ≤ until → IsAt packed index from → IsTravelling packed from until index from least most
travelling_none packed from until index least most some held = record {
  order = (omega arith, omega (arith, some));
  held = held;
  slower = λ onward t late early. absurd (omega (arith, late, early));
  faster = λ t late early. absurd (omega (arith, late, early));
}

module _ (packed : List Run) (is : IsDayList packed) (from until index at least most : ℕ) (in_day : until ≤ day)
    (travelling : IsTravelling packed from until index at least most) (before : at < until) where
  pub travelling_next : index + 1 < length packed
  travelling_next =
      let (next, after, later, last, inside) = at_next packed is index at travelling.held (omega (arith, before, in_day)) in
      inside

  module _ (run next : Run) (end : ℕ) (is_run : run ≡ get_or packed index run) (is_next : next ≡ get_or packed (index + 1) next) (is_end : end ≡ min next.from until) where
    next_there : slice_get packed (index + 1) ≡ Some next
    next_there = read_there packed (index + 1) next travelling_next is_next

    run_there : slice_get packed index ≡ Some run
    run_there = let inside = travelling_next in read_there packed index run (omega (arith, inside)) is_run

    pub travelling_order : (at < end) × (end ≤ until)
    travelling_order =
        let later = travelling.held.lasts next next_there in
        (omega (arith, later, before, is_end), omega (arith, is_end))

    value_here : (s : ℕ) → at ≤ s → s < end → arrival_value packed s ≡ arrives run.rule s
    value_here s late early = at_value packed is index at end s run next travelling.held run_there next_there (omega (arith, is_end)) late early

    pub travelling_more : (index_after least_after most_after : ℕ) → least_after ≡ min least (arrives run.rule (end - 1) - (end - 1)) → most_after ≡ max most (arrives run.rule at - at)
        → (next.from ≡ end → index_after ≡ index + 1) → (next.from ≢ end → index_after ≡ index) → IsTravelling packed from until index_after end least_after most_after
    travelling_more index_after least_after most_after is_least is_most ended lasts =
        let order = travelling_order in
        let begun = travelling.order.0 in
        record {
          order = (omega (arith, begun, order.0), order.1);
          held = at_stepped packed is index at end index_after next travelling.held next_there (omega (arith, order.0)) (omega (arith, is_end)) (omega (arith, order.1, in_day)) ended lasts;
          slower = λ onward s late early. elim (cases_lt s at) [
            | inl lt ↦ let old = travelling.slower onward s late lt in omega (arith, old, is_least)
            | inr ge ↦
                let here = value_here s ge early in
                let last = value_here (end - 1) (omega (arith, order.0)) (omega (arith, order.0)) in
                let after = onward (end - 1) (omega (arith, order.0, order.1, in_day)) in
                let low = travel_least run.rule s (end - 1) (omega (arith, early)) (omega (arith, after, last)) in
                omega (arith, here, low, is_least)
          ];
          faster = λ s late early. elim (cases_lt s at) [
            | inl lt ↦ let old = travelling.faster s late lt in omega (arith, old, is_most)
            | inr ge ↦
                let here = value_here s ge early in
                let high = travel_most run.rule at s ge in
                omega (arith, here, high, is_most)
          ];
        }

-- what is known at the end holds of all
pub travelling_done : (packed : List Run) (from until index at least most : ℕ) → IsTravelling packed from until index at least most → until ≤ at
    → IsAt packed index until × (IsOnward (arrival_value packed) → TakesBetween (arrival_value packed) from until least) × TakesUpToBetween (arrival_value packed) from until most
travelling_done packed from until index at least most is late =
    let end : at ≡ until = let order = is.order.1 in omega (arith, late, order) in (
      subst (λ (t : ℕ). IsAt packed index t) end is.held,
      λ onward. subst (λ (t : ℕ). TakesBetween (arrival_value packed) from t least) end (is.slower onward),
      subst (λ (t : ℕ). TakesUpToBetween (arrival_value packed) from t most) end is.faster,
    )

module _ (windows : Windows) where
  pub starts_in_day : (i : ℕ) → window_start windows i ≤ day
  starts_in_day zero = omega arith
  starts_in_day (suc i) = elim (cases_lt i WIDTHS) [
    | inl lt ↦ let test : ltb i WIDTHS ≡ true = grind (arith, nat_tests) in rw test (omega arith)
    | inr ge ↦ let test : ltb i WIDTHS ≡ false = grind (arith, nat_tests) in rw test (omega arith)
  ]

  start_narrow : (i : ℕ) → i < WIDTHS → window_start windows (suc i) ≡ min day (window_start windows i + get_or windows.widths i 0)
  start_narrow i lt = let test : ltb i WIDTHS ≡ true = grind (arith, nat_tests) in rw test refl

  pub start_next : (i : ℕ) → i < WIDTHS → window_start windows (i + 1) ≡ min day (window_start windows i + get_or windows.widths i 0)
  start_next i lt =
      let same : suc i ≡ i + 1 = omega arith in
      subst (λ (n : ℕ). window_start windows n ≡ min day (window_start windows i + get_or windows.widths i 0)) same (start_narrow i lt)

  pub start_last : (i : ℕ) → WIDTHS ≤ i → window_start windows (suc i) ≡ day
  start_last i ge = let test : ltb i WIDTHS ≡ false = grind (arith, nat_tests) in rw test refl

  start_step : (i : ℕ) → window_start windows i ≤ window_start windows (suc i)
  start_step i = elim (cases_lt i WIDTHS) [
    | inl lt ↦ let in_day = starts_in_day i in let next = start_narrow i lt in omega (arith, in_day, next)
    | inr ge ↦ let in_day = starts_in_day i in let next = start_last i ge in omega (arith, in_day, next)
  ]

  -- behind the last window the day ends
  pub start_behind : (i : ℕ) → window_start windows (min i WINDOWS) ≡ window_start windows i
  start_behind i = elim (cases_lt i WINDOWS) [
    | inl lt ↦ let same : min i WINDOWS ≡ i = omega (arith, lt) in ap (window_start windows) same
    | inr ge ↦
        let capped : min i WINDOWS ≡ suc WIDTHS = omega (arith, ge) in
        let next : suc (i - 1) ≡ i = omega (arith, ge) in
        ap (window_start windows) capped ∙ sym (start_last (i - 1) (omega (arith, ge))) ∙ ap (window_start windows) next
  ]

  pub starts_rise : (i : ℕ) → window_start windows i ≤ window_start windows (i + 1)
  starts_rise i = let same : suc i ≡ i + 1 = omega arith in subst (λ (n : ℕ). window_start windows i ≤ window_start windows n) same (start_step i)

  pub starts_between : (i j : ℕ) → i ≤ j → window_start windows i ≤ window_start windows j
  starts_between i zero order =
      let same : 0 ≡ i = omega (arith, order) in
      subst (λ (n : ℕ). window_start windows n ≤ window_start windows 0) same (omega arith)
  starts_between i (suc j) order = elim (cases_lt i (suc j)) [
    | inl lt ↦ let before = starts_between i j (omega (arith, lt)) in let next = start_step j in omega (arith, before, next)
    | inr ge ↦
        let same : suc j ≡ i = omega (arith, order, ge) in
        subst (λ (n : ℕ). window_start windows n ≤ window_start windows (suc j)) same (omega arith)
  ]

  -- what stands in the table of starts
  pub start_there : (starts : List ℕ) → AreStarts windows starts → (i : ℕ) → get_or starts (min i WINDOWS) 0 ≡ window_start windows i
  start_there starts are i = are (min i WINDOWS) (omega arith) ∙ start_behind i

  -- a second of the day is in no window behind the last one
  pub in_last : (i t : ℕ) → IsIn windows i t → IsIn windows (min i WIDTHS) t
  in_last i t inside = elim (cases_lt i WINDOWS) [
    | inl lt ↦ let same : i ≡ min i WIDTHS = omega (arith, lt) in subst (λ (n : ℕ). IsIn windows n t) same inside
    | inr ge ↦
        let next : suc (i - 1) ≡ i = omega (arith, ge) in
        let last : window_start windows i ≡ day = subst (λ (n : ℕ). window_start windows n ≡ day) next (start_last (i - 1) (omega (arith, ge))) in
        let in_day = starts_in_day (i + 1) in
        let late = inside.0 in
        let early = inside.1 in
        absurd (omega (arith, last, in_day, late, early))
  ]

  -- so what is known of the last one is known of those
  pub span_in_last : (f : ℕ → ℕ) (i last : ℕ) (span : Span) → last ≡ min i WIDTHS → IsSpan f (window_start windows last) (window_start windows (last + 1)) span
      → IsSpan f (window_start windows i) (window_start windows (i + 1)) span
  span_in_last f i last span is_last is =
      let there : (t : ℕ) → IsIn windows i t → IsIn windows last t = λ t inside. subst (λ (n : ℕ). IsIn windows n t) (sym is_last) (in_last i t inside) in
      record {
        slower = λ t late early. let inside = there t (late, early) in is.slower t inside.0 inside.1;
        faster = λ known t late early. let inside = there t (late, early) in is.faster known t inside.0 inside.1;
      }

-- between which seconds the reaches lie
module _ (windows : Windows) (window : ℕ) (inside : window < WINDOWS) where
  pub two_reached : (reach_start windows window ≡ window_start windows window) × (reach_end windows window ≡ window_start windows (window + 2))
  two_reached =
      let place : window % WINDOWS ≡ window = omega (arith, inside) in
      let test : ltb window 32 ≡ true = grind (arith, nat_tests, inside) in
      rw (place, test) (refl, refl)

  pub four_reached : (reach_start windows (WINDOWS + window) ≡ window_start windows window) × (reach_end windows (WINDOWS + window) ≡ window_start windows (window + 4))
  four_reached =
      let place : (WINDOWS + window) % WINDOWS ≡ window = omega (arith, inside) in
      let above : ltb (WINDOWS + window) 32 ≡ false = grind (arith, nat_tests) in
      let test : ltb (WINDOWS + window) 64 ≡ true = grind (arith, nat_tests, inside) in
      rw (place, above, test) (refl, refl)

-- a second within a reach is one of the day
pub within_day : (windows : Windows) (reach s : ℕ) → IsWithinReach windows reach s → s < day
within_day windows reach s within =
    let in_day = starts_in_day windows (reach % WINDOWS + reach_span reach) in
    omega (arith, within, in_day)

-- limits that are lowered to a function are lowered to one that agrees over the day
pub lowered_same : (windows : Windows) (f g : ℕ → ℕ) (old new : List ℕ) → ((t : ℕ) → t < day → f t ≡ g t) → AreLowered windows f old new → AreLowered windows g old new
lowered_same windows f g old new same are window inside = elim (are window inside) [
  | inl stays ↦ inl stays
  | inr takes ↦ inr (λ t late early.
      let bound = takes t late early in
      let in_day = starts_in_day windows (window + 1) in
      let value = same t (omega (arith, in_day, early)) in
      omega (arith, bound, value))
]

-- a second at which a function arrives who leaves in a window, with its day
module _ (windows : Windows) (first second : List Run) (function : IsPackedFunction second) (from until reach : ℕ) (is_reach : reach ≤ 2 * WINDOWS)
    (reaches : reach < 2 * WINDOWS → Reaches windows (arrival_value first) from until reach) where
  arrives_at : (t : ℕ) → from ≤ t → t < until → (days s : ℕ) × IsWithinReach windows reach s × (arrival_value first t ≡ days * day + s)
  arrives_at t late early = elim (cases_lt reach (2 * WINDOWS)) [
    | inl lt ↦
        let (days, between) = reaches lt in
        let low = (between t late early).0 in
        let high = (between t late early).1 in
        (days, arrival_value first t - days * day, (omega (arith, low), omega (arith, low, high)), omega (arith, low))
    | inr ge ↦
        let (days, s, lt, e) = day_parts (arrival_value first t) in
        let whole : 64 ≡ reach = omega (arith, is_reach, ge) in
        let within : IsWithinReach windows 64 s = (omega arith, lt) in
        (days, s, subst (λ (n : ℕ). IsWithinReach windows n s) whole within, e)
  ]

  pub linked_least : (one two least : ℕ) → TakesBetween (arrival_value first) from until one → ((s : ℕ) → IsWithinReach windows reach s → s + two ≤ arrival_value second s) → least ≤ one + two
      → TakesBetween (composed first second) from until least
  linked_least one two least takes slower is t late early =
      let (days, s, within, e) = arrives_at t late early in
      let to = takes t late early in
      let on = slower s within in
      let same = repeats second function.over_day days s (within_day windows reach s within) in
      let value : composed first second t ≡ arrival_value second (days * day + s) = ap (arrival_value second) e in
      omega (arith, to, on, same, value, e, is)

  pub linked_most : (one two most : ℕ) → TakesUpToBetween (arrival_value first) from until one → ((s : ℕ) → IsWithinReach windows reach s → arrival_value second s ≤ s + two)
      → most ≡ one + two → TakesUpToBetween (composed first second) from until most
  linked_most one two most takes faster is t late early =
      let (days, s, within, e) = arrives_at t late early in
      let to = takes t late early in
      let on = faster s within in
      let same = repeats second function.over_day days s (within_day windows reach s within) in
      let value : composed first second t ≡ arrival_value second (days * day + s) = ap (arrival_value second) e in
      omega (arith, to, on, same, value, e, is)

-- a limit that is the lesser of what it was and an upper bound
pub lowered_one : (f : ℕ → ℕ) (from until old upper new : ℕ) → IsUpper f from until upper → old < 2 ^ 32 → new ≡ min old upper → IsLowered f from until old new
lowered_one f from until old upper new is small same = elim (cases_lt upper old) [
  | inl lt ↦ inr (λ t late early. let bound = is (omega (arith, lt, small)) t late early in omega (arith, bound, same, lt))
  | inr ge ↦ inl (omega (arith, same, ge))
]

-- who leaves in a window arrives within the reach of the seconds between which they arrive
pub window_taken : (windows : Windows) (f : ℕ → ℕ) (number least most reach : ℕ) (window : Window) → TakesBetween f (window_start windows number) (window_start windows (number + 1)) least
    → TakesUpToBetween f (window_start windows number) (window_start windows (number + 1)) most
    → IsSpan f (window_start windows number) (window_start windows (number + 1)) window.span → window.reach ≡ reach
    → IsReach windows (min (window_start windows number + least) (2 ^ 64 - 1)) (min (window_start windows (number + 1) + most) (2 ^ 64 - 1)) reach → IsWindow windows f number window
window_taken windows f number least most reach window takes takes_up span is_reach reaches = record {
  span = span;
  is_reach = let few = reaches.0 in omega (arith, few, is_reach);
  reach = λ inside.
      let (small, (days, low, high)) = reaches.1 (omega (arith, inside, is_reach)) in (
        days,
        λ t late early.
            let one = takes t late early in
            let two = takes_up t late early in
            let lows : days * day + reach_start windows window.reach ≤ f t = subst (λ (n : ℕ). days * day + reach_start windows n ≤ f t) (sym is_reach) (omega (arith, one, late, low)) in
            let highs : f t < days * day + reach_end windows window.reach = subst (λ (n : ℕ). f t < days * day + reach_end windows n) (sym is_reach) (omega (arith, two, early, high, small)) in
            (lows, highs),
      );
}
