-- Functions of brief runs, one behind the other, by the runs in force.
use Rattle.std.proofs.Common.{◌≡◌, ◌≤◌, ◌<◌, ◌+◌, ◌-◌, ◌*◌, ◌/◌, ◌%◌, ◌++◌, ◌∙◌, ℕ, List, [], ◌∷◌, Some, true, false, refl, sym, ap, subst, arith}
use Rattle.std.specs.Prelude.{slice_get}
use Rattle.std.specs.Option.{option_map}
use Rattle.std.proofs.lemmas.Nat.{div-add-mod', mod_below}
use Rattle.cu_model.specs.Days.{day}
use Rattle.cu_arrival.specs.declared.runs.Run.{Run}
use Rattle.cu_arrival.specs.declared.runs.RunRule.{RunRule}
use Rattle.cu_arrival.specs.declared.runs.RunRule.TheVariants.{Shift, Fixed}
use Rattle.cu_arrival.specs.Runs.{arrival_value, arrives, rule_number}
use Rattle.cu_arrival.proofs.Mapped.{starts-map}
use Rattle.cu_arrival.proofs.RunLaws.{value-days}
use Rattle.cu_runs.specs.PackedRuns.{composed, end_run, is_fixed}
use Rattle.cu_brief.specs.BriefRuns.{IsBrief, brief_from, brief_value, run_of_brief, runs_of}
use Rattle.cu_store.proofs.RowLaws.{end_after}
use Rattle.cu_filling.specs.Filling.{behind_rule, linked_value}

ended_starts : (base : ℕ) (brief : List ℕ) → option_map brief_from (slice_get brief 0) ≡ Some 0 → option_map (λ (r : Run). r.from) (slice_get (runs_of base brief ++ end_run ∷ []) 0) ≡ Some 0
ended_starts base [] e = absurd (cc e)
ended_starts base (x ∷ brief) e = e

module _ (base : ℕ) (brief : List ℕ) (is : IsBrief brief) where
  -- a day later they arrive a day later
  pub brief_days : (k s : ℕ) → s < day → brief_value base brief (k * day + s) ≡ k * day + brief_value base brief s
  brief_days k s early = value-days (runs_of base brief) (starts-map (run_of_brief base) (λ (r : Run). r.from) brief ∙ is.starts) k s early

  -- the end of a function says nothing at any second
  pub end_always : (t : ℕ) → arrival_value (runs_of base brief ++ end_run ∷ []) t ≡ brief_value base brief t
  end_always t =
      let runs = runs_of base brief ++ end_run ∷ [] in
      let k = t / day in
      let s = t % day in
      let early : s < day = mod_below t day (omega arith) in
      let parts : k * day + s ≡ t = div-add-mod' t day in
      let late = value-days runs (ended_starts base brief is.starts) k s early in
      subst (λ (n : ℕ). arrival_value runs n ≡ brief_value base brief n) parts
      (late ∙ ap (λ (n : ℕ). k * day + n) (end_after (runs_of base brief) s early) ∙ sym (brief_days k s early))

-- one behind the other they are the composition of the functions that they mean
pub linked_composed : (b1 : ℕ) (r1 : List ℕ) (b2 : ℕ) (r2 : List ℕ) → IsBrief r1 → IsBrief r2 → (t : ℕ)
    → linked_value b1 r1 b2 r2 t ≡ composed (runs_of b1 r1 ++ end_run ∷ []) (runs_of b2 r2 ++ end_run ∷ []) t
linked_composed b1 r1 b2 r2 one two t =
    ap (brief_value b2 r2) (sym (end_always b1 r1 one t)) ∙ sym (end_always b2 r2 two (arrival_value (runs_of b1 r1 ++ end_run ∷ []) t))

-- a rule arrives at most its number and the second later
pub arrives_most : (r : RunRule) (t : ℕ) → arrives r t ≤ rule_number r + t
arrives_most (Shift d) t = omega arith
arrives_most (Fixed c) t = omega arith

fixed_same : (r : RunRule) (s t : ℕ) → is_fixed r ≡ true → arrives r t ≡ arrives r s
fixed_same (Shift d) s t e = absurd (cc e)
fixed_same (Fixed c) s t e = refl

shift_same : (r : RunRule) (s t : ℕ) → is_fixed r ≡ false → (s ≤ arrives r s) × (arrives r t ≡ t + (arrives r s - s))
shift_same (Shift d) s t e = (omega arith, omega arith)
shift_same (Fixed c) s t e = absurd (cc e)

-- a rule that shifts arrives no earlier than it leaves
pub shift_onward : (r : RunRule) (s : ℕ) → is_fixed r ≡ false → s ≤ arrives r s
shift_onward r s e = (shift_same r s s e).0

behind_value : (r : RunRule) (seconds midnight t v : ℕ) → t + seconds ≡ midnight + v → arrives (behind_rule r seconds midnight) t ≡ midnight + arrives r v
behind_value (Shift d) seconds midnight t v e = omega (arith, e)
behind_value (Fixed c) seconds midnight t v e = refl

module _ (b1 : ℕ) (r1 : List ℕ) (b2 : ℕ) (r2 : List ℕ) (two_is : IsBrief r2) (at between midnight e1 e2 : ℕ) (one two : RunRule)
    (is_between : between ≡ arrives one at) (is_midnight : midnight ≡ between / day * day)
    (holds_one : (t : ℕ) → at ≤ t → t < e1 → arrives one t ≡ brief_value b1 r1 t)
    (holds_two : (t : ℕ) → between - midnight ≤ t → t < e2 → arrives two t ≡ brief_value b2 r2 t) (in_day : e2 ≤ day) where
  -- the second function on the day on which the first one arrives, by the run in force
  later_value : (v : ℕ) → between - midnight ≤ v → v < e2 → brief_value b2 r2 (midnight + v) ≡ midnight + arrives two v
  later_value v late early =
      let days = brief_days b2 r2 two_is (between / day) v (omega (arith, early, in_day)) in
      subst (λ (m : ℕ). brief_value b2 r2 (m + v) ≡ m + arrives two v) (sym is_midnight) (days ∙ ap (λ (n : ℕ). between / day * day + n) (sym (holds_two v late early)))

  -- where the first one arrives at one second, so does the second one
  pub fixed_says : is_fixed one ≡ true → between - midnight < e2 → (t : ℕ) → at ≤ t → t < e1 → midnight + arrives two (between - midnight) ≡ linked_value b1 r1 b2 r2 t
  fixed_says fixed some t late early =
      let place : midnight + (between - midnight) ≡ between = omega (arith, is_midnight) in
      let first : brief_value b1 r1 t ≡ between = sym (holds_one t late early) ∙ fixed_same one at t fixed ∙ sym is_between in
      sym (ap (brief_value b2 r2) (first ∙ sym place) ∙ later_value (between - midnight) (omega arith) some)

  -- where the first one takes as long, the second one's rule holds as long behind it
  pub shift_says : is_fixed one ≡ false → between - midnight < e2 → (t : ℕ) → at ≤ t → t < e1 → t < at + (e2 - (between - midnight))
      → arrives (behind_rule two (between - at) midnight) t ≡ linked_value b1 r1 b2 r2 t
  shift_says shifts some t late early until =
      let same = shift_same one at t shifts in
      let v = t + (between - at) - midnight in
      let on : at ≤ between = omega (arith, is_between, same.0) in
      let low : midnight ≤ between = omega (arith, is_midnight) in
      let place : t + (between - at) ≡ midnight + v = omega (arith, on, late, low) in
      let first : brief_value b1 r1 t ≡ midnight + v = sym (holds_one t late early) ∙ same.1 ∙ ap (λ (n : ℕ). t + (n - at)) (sym is_between) ∙ place in
      behind_value two (between - at) midnight t v place
      ∙ sym (ap (brief_value b2 r2) first ∙ later_value v (omega (arith, on, late, low)) (omega (arith, on, late, low, until, some)))
