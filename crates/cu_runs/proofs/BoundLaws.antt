-- Bounds of a function in each window of the day: how they are written and read.
use Rattle.std.proofs.Common.{◌≡◌, ◌≢◌, ◌≤◌, ◌<◌, ◌+◌, ◌-◌, ◌*◌, ◌∙◌, ℕ, List, sym, subst, arith, inl, inr, length, length-set, get_or}
use Rattle.std.proofs.Math.ListN.{set}
use Rattle.std.proofs.lemmas.Bool.{cases_lt}
use Rattle.std.proofs.lemmas.List.{get_or-set_same, get_or-set_other}
use Rattle.cu_model.specs.Days.{day}
use Rattle.cu_arrival.specs.declared.runs.Run.{Run}
use Rattle.cu_arrival.specs.Runs.{arrival_value}
use Rattle.cu_runs.specs.declared.windows.Bounds.{Bounds}
use Rattle.cu_runs.specs.declared.windows.Span.{Span}
use Rattle.cu_runs.specs.declared.windows.TheConstants.{WINDOWS}
use Rattle.cu_runs.specs.declared.windows.Window.{Window}
use Rattle.cu_runs.specs.declared.windows.Windows.{Windows}
use Rattle.cu_runs.specs.PackedRuns.{IsPackedFunction, composed}
use Rattle.cu_runs.specs.Windows.{TakesBetween, TakesUpToBetween, window_start}
use Rattle.cu_runs.specs.Steps.Bounded.{reach_end, reach_start, AreBounds, AreReaches, AreWindows, IsSpan, IsWindow, IsWithinReach, span_at, window_in}
use Rattle.cu_runs.proofs.WindowLaws.{four_reached, linked_least, linked_most, two_reached}

-- what is written at the next place, and what stood before it
pub next_set : {A : Type 0} (none : A) (IsOne : ℕ → A → Type 0) (xs : List A) (count : ℕ) (x : A) → count < length xs → ((i : ℕ) → i < count → IsOne i (get_or xs i none)) → IsOne count x
    → (i : ℕ) → i < count + 1 → IsOne i (get_or (set xs count x) i none)
next_set {A} none IsOne xs count x inside are is i h = elim (cases_lt i count) [
  | inl lt ↦
      let apart : i ≢ count = λ e. absurd (omega (arith, e, lt)) in
      subst (λ (n : A). IsOne i n) (sym (get_or-set_other xs count i x none apart)) (are i lt)
  | inr ge ↦
      let here : count ≡ i = omega (arith, h, ge) in
      subst (λ (j : ℕ). IsOne j (get_or (set xs count x) j none)) here (subst (λ (n : A). IsOne count n) (sym (get_or-set_same xs count x none inside)) is)
]

pub each_set : (IsOne : ℕ → ℕ → Type 0) (xs : List ℕ) (count x : ℕ) → count < length xs → ((i : ℕ) → i < count → IsOne i (get_or xs i 0)) → IsOne count x
    → (i : ℕ) → i < count + 1 → IsOne i (get_or (set xs count x) i 0)
each_set = next_set 0

-- what stands behind it stays
pub ahead_set : (xs old : List ℕ) (count x : ℕ) → ((i : ℕ) → count ≤ i → get_or xs i 0 ≡ get_or old i 0) → (i : ℕ) → count + 1 ≤ i → get_or (set xs count x) i 0 ≡ get_or old i 0
ahead_set xs old count x same i h =
    let apart : i ≢ count = λ e. absurd (omega (arith, e, h)) in
    subst (λ (n : ℕ). n ≡ get_or old i 0) (sym (get_or-set_other xs count i x 0 apart)) (same i (omega (arith, h)))

-- what a read behind the end of a list of spans gives
abbrev none : Span
none = record { least = 0; most = 0 }

-- one more window
pub windows_set : (windows : Windows) (f : ℕ → ℕ) (old : Bounds) (count : ℕ) (window : Window) → count < length old.own → count < length old.reach
    → AreWindows windows f old count → IsWindow windows f count window
    → AreWindows windows f (record { windows = old.windows; own = set old.own count window.span; reach = set old.reach count window.reach; over = old.over }) (count + 1)
windows_set windows f old count window one two are is i h = elim (cases_lt i count) [
  | inl lt ↦
      let apart : i ≢ count = λ e. absurd (omega (arith, e, lt)) in
      let a = get_or-set_other old.own count i window.span none apart in
      let b = get_or-set_other old.reach count i window.reach 0 apart in
      rw (a, b) (are i lt)
  | inr ge ↦
      let here : count ≡ i = omega (arith, h, ge) in
      let a = get_or-set_same old.own count window.span none one in
      let b = get_or-set_same old.reach count window.reach 0 two in
      subst (λ (j : ℕ). IsWindow windows f j (record { span = get_or (set old.own count window.span) j none; reach = get_or (set old.reach count window.reach) j 0 })) here (rw (a, b) is)
]

module _ (windows : Windows) (f : ℕ → ℕ) where
  -- the reaches from the first windows on, so many, and that of the day
  pub record AreFirst (over : List Span) (count : ℕ) (whole : Span) : Type 0 where
    pub two : (window : ℕ) → window < count → IsSpan f (window_start windows window) (window_start windows (window + 2)) (span_at over window)
    pub four : (window : ℕ) → window < count → IsSpan f (window_start windows window) (window_start windows (window + 4)) (span_at over (WINDOWS + window))
    pub last : span_at over (2 * WINDOWS) ≡ whole

  pub first_set : (over : List Span) (count : ℕ) (whole two four : Span) → length over ≡ 2 * WINDOWS + 1 → count < WINDOWS → AreFirst over count whole
      → IsSpan f (window_start windows count) (window_start windows (count + 2)) two → IsSpan f (window_start windows count) (window_start windows (count + 4)) four
      → AreFirst (set (set over count two) (WINDOWS + count) four) (count + 1) whole
  first_set over count whole two four long inside are is_two is_four =
      let once = set over count two in
      let place : WINDOWS + count < length once = let same = length-set over count two in omega (arith, inside, long, same) in
      record {
        two = λ i h.
            let apart : i ≢ WINDOWS + count = λ e. absurd (omega (arith, e, h, inside)) in
            subst (λ (s : Span). IsSpan f (window_start windows i) (window_start windows (i + 2)) s) (sym (get_or-set_other once (WINDOWS + count) i four none apart))
            (next_set none (λ window s. IsSpan f (window_start windows window) (window_start windows (window + 2)) s) over count two (omega (arith, inside, long)) are.two is_two i h);
        four = λ i h. elim (cases_lt i count) [
          | inl lt ↦
              let apart : WINDOWS + i ≢ WINDOWS + count = λ e. absurd (omega (arith, e, lt)) in
              let ahead : WINDOWS + i ≢ count = λ e. absurd (omega (arith, e, inside)) in
              let same = get_or-set_other once (WINDOWS + count) (WINDOWS + i) four none apart ∙ get_or-set_other over count (WINDOWS + i) two none ahead in
              subst (λ (s : Span). IsSpan f (window_start windows i) (window_start windows (i + 4)) s) (sym same) (are.four i lt)
          | inr ge ↦
              let here : count ≡ i = omega (arith, h, ge) in
              let same = get_or-set_same once (WINDOWS + count) four none place in
              subst (λ (j : ℕ). IsSpan f (window_start windows j) (window_start windows (j + 4)) (span_at (set once (WINDOWS + count) four) (WINDOWS + j))) here
              (subst (λ (s : Span). IsSpan f (window_start windows count) (window_start windows (count + 4)) s) (sym same) is_four)
        ];
        last =
            let apart : 2 * WINDOWS ≢ WINDOWS + count = λ e. absurd (omega (arith, e, inside)) in
            let ahead : 2 * WINDOWS ≢ count = λ e. absurd (omega (arith, e, inside)) in
            get_or-set_other once (WINDOWS + count) (2 * WINDOWS) four none apart ∙ get_or-set_other over count (2 * WINDOWS) two none ahead ∙ are.last;
      }

  pub first_all : (over : List Span) (whole : Span) → AreFirst over WINDOWS whole → IsSpan f 0 day whole → AreReaches windows f over
  first_all over whole are is reach inside = elim (cases_lt reach WINDOWS) [
    | inl lt ↦
        let (start, end) = two_reached windows reach lt in
        rw (start, end) (are.two reach lt)
    | inr ge ↦ elim (cases_lt reach (2 * WINDOWS)) [
      | inl more ↦
          let lt : reach - WINDOWS < WINDOWS = omega (arith, more) in
          let (start, end) = four_reached windows (reach - WINDOWS) lt in
          let same : WINDOWS + (reach - WINDOWS) ≡ reach = omega (arith, ge) in
          subst (λ (n : ℕ). IsSpan f (reach_start windows n) (reach_end windows n) (span_at over n)) same (rw (start, end) (are.four (reach - WINDOWS) lt))
      | inr last ↦
          let same : 64 ≡ reach = omega (arith, inside, last) in
          let here : IsSpan f 0 day (span_at over 64) = subst (λ (s : Span). IsSpan f 0 day s) (sym are.last) is in
          subst (λ (n : ℕ). IsSpan f (reach_start windows n) (reach_end windows n) (span_at over n)) same here
    ]
  ]

-- what is known of both functions is known of their composition
module _ (first behind : List Run) (function : IsPackedFunction behind) (one two : Bounds) (same : two.windows ≡ one.windows)
    (are : AreBounds (arrival_value first) one) (next : AreBounds (arrival_value behind) two) (window : ℕ) (inside : window < WINDOWS) where
  abbrev reach : ℕ
  reach = get_or one.reach window 0

  known : IsWindow one.windows (arrival_value first) window (window_in one window)
  known = are.windows window inside

  at_reach : (s : ℕ) → IsWithinReach one.windows reach s → IsWithinReach two.windows reach s
  at_reach s within = subst (λ (ws : Windows). IsWithinReach ws reach s) (sym same) within

  pub least_behind : (least : ℕ) → least ≡ (span_at one.own window).least + (span_at two.over reach).least
      → TakesBetween (composed first behind) (window_start one.windows window) (window_start one.windows (window + 1)) least
  least_behind least is =
      let few = known.is_reach in
      linked_least one.windows first behind function (window_start one.windows window) (window_start one.windows (window + 1)) reach known.is_reach known.reach
      (span_at one.own window).least (span_at two.over reach).least least known.span.slower
      (λ s within. let there = at_reach s within in (next.over reach (omega (arith, few))).slower s there.0 there.1) (omega (arith, is))

  pub most_behind : (most : ℕ) → most ≡ (span_at one.own window).most + (span_at two.over reach).most → most < 65535
      → TakesUpToBetween (composed first behind) (window_start one.windows window) (window_start one.windows (window + 1)) most
  most_behind most is less =
      let few = known.is_reach in
      linked_most one.windows first behind function (window_start one.windows window) (window_start one.windows (window + 1)) reach known.is_reach known.reach
      (span_at one.own window).most (span_at two.over reach).most most (known.span.faster (omega (arith, is, less)))
      (λ s within. let there = at_reach s within in (next.over reach (omega (arith, few))).faster (omega (arith, is, less)) s there.0 there.1) is
