-- A function's runs but the one that ends it are an arrival function, with the same value.
use Rattle.std.proofs.Common.{◌≡◌, ◌≤◌, ◌<◌, ◌+◌, ◌-◌, ◌/◌, ◌%◌, ◌^◌, ◌∙◌, ◌⊎◌, ℕ, zero, suc, Bool, true, false, List}
use Rattle.std.proofs.Common.{[], ◌∷◌, Option, Some, None, refl, sym, ap, subst, arith, inl, inr, leb, length, get_or, take, if◌then◌else◌}
use Rattle.std.specs.Prelude.{All, slice_get}
use Rattle.std.specs.Option.{option_map}
use Rattle.std.proofs.lemmas.List.{get_or-take, length-take-le}
use Rattle.std.proofs.lemmas.Option.{get_or_from_slice_get, slice_get_within}
use Rattle.cu_model.specs.Begun.{last_begun, later_of}
use Rattle.cu_model.specs.Days.{day, IsOnward}
use Rattle.cu_model.proofs.Begun.{gt_test, none_begun, rises_between, starts_begun}
use Rattle.cu_arrival.specs.declared.runs.Run.{Run}
use Rattle.cu_arrival.specs.declared.runs.RunRule.{RunRule}
use Rattle.cu_arrival.specs.declared.runs.RunRule.TheVariants.{Shift, Fixed}
use Rattle.cu_arrival.specs.Runs.{IsArrivalFunction, arrival_value, rule_number, rule_value, run_at, run_value}
use Rattle.cu_arrival.proofs.RunLaws.{value_in_day}
use Rattle.cu_runs.specs.declared.packed_runs.TheConstants.{MAX_NUMBER}
use Rattle.cu_runs.specs.PackedRuns.{IsPackedFunction}
use Rattle.cu_runs.specs.Travels.{TakesAtLeast}
use Rattle.cu_runs.proofs.DayLists.{last_from, two_packed}

-- what comes behind the first items and begins later says nothing
begun_cut : {A : Type 0} (from : A → ℕ) (xs : List A) (n s : ℕ) → ((k : ℕ) (x : A) → n ≤ k → slice_get xs k ≡ Some x → leb (from x) s ≡ false)
    → last_begun from (take n xs) s ≡ last_begun from xs s
begun_cut from [] zero s late = refl
begun_cut from [] (suc n) s late = refl
begun_cut from (x ∷ xs) zero s late = sym (none_begun from (x ∷ xs) s (λ k y e. late k y (omega arith) e))
begun_cut {A} from (x ∷ xs) (suc n) s late =
    ap (λ (o : Option A). later_of (if leb (from x) s then Some x else None) o) (begun_cut from xs n s (λ k y le e. late (suc k) y (omega (arith, le)) e))

starts_cut : {A : Type 0} (from : A → ℕ) (xs : List A) (n b : ℕ) → 0 < n → option_map from (slice_get xs 0) ≡ Some b → option_map from (slice_get (take n xs) 0) ≡ Some b
starts_cut from xs zero b some e = absurd (omega (arith, some))
starts_cut from [] (suc n) b some e = absurd (cc e)
starts_cut from (x ∷ xs) (suc n) b some e = e

if_some : {A : Type 0} (b : Bool) (y x : A) → (if b then Some y else None) ≡ Some x → y ≡ x
if_some true y x e = cc e
if_some false y x e = absurd (cc e)

later_cases : {A : Type 0} (first second : Option A) (x : A) → later_of first second ≡ Some x → (second ≡ Some x) ⊎ (first ≡ Some x)
later_cases first None x e = inr e
later_cases first (Some y) x e = inl e

-- what holds of all items holds of the one that has begun last
pub begun_all : {A : Type 0} (from : A → ℕ) (P : A → Type 0) (xs : List A) (s : ℕ) (x : A) → All P xs → last_begun from xs s ≡ Some x → P x
begun_all from P [] s x all e = absurd (cc e)
begun_all from P (y ∷ ys) s x all e =
    elim (later_cases (if leb (from y) s then Some y else None) (last_begun from ys s) x e) [
      | inl later ↦ begun_all from P ys s x (λ k d h. all (suc k) d (omega (arith, h))) later
      | inr here ↦ subst P (if_some (leb (from y) s) y x here) (all 0 y (omega arith))
    ]

rule_bound : (r : RunRule) (s : ℕ) → rule_value r 0 s ≤ s + rule_number r
rule_bound (Shift d) s = omega arith
rule_bound (Fixed c) s = omega arith

module _ (packed : List Run) (is : IsPackedFunction packed) where
  abbrev pub runs : List Run
  runs = take (length packed - 1) packed

  runs_long : length runs ≡ length packed - 1
  runs_long = length-take-le (length packed - 1) packed (omega arith)

  run_same : (k : ℕ) (d : Run) → k < length runs → get_or runs k d ≡ get_or packed k d
  run_same k d h = let long = runs_long in get_or-take (length packed - 1) packed k d (omega (arith, h, long))

  -- a run but the last is from before the end of the day
  run_in_day : (k : ℕ) (d : Run) → k < length runs → (get_or packed k d).from < day
  run_in_day k d h =
      let long = runs_long in
      let last = last_from packed is.over_day d in
      let order = rises_between (λ (run : Run). run.from) packed is.over_day.rises d k (length packed - 1) (omega (arith, h, long)) (omega (arith, last.0)) in
      omega (arith, order, last.1)

  -- the last is never in force
  end_late : (s k : ℕ) (x : Run) → s < day → length packed - 1 ≤ k → slice_get packed k ≡ Some x → leb x.from s ≡ false
  end_late s k x lt late there =
      let last = last_from packed is.over_day x in
      let inside = slice_get_within packed k x there in
      let place : k ≡ length packed - 1 = omega (arith, late, inside) in
      let same : get_or packed k x ≡ x = get_or_from_slice_get packed k x x there in
      let from : x.from ≡ day = ap (λ (r : Run). r.from) (sym same) ∙ ap (λ (i : ℕ). (get_or packed i x).from) place ∙ last.1 in
      gt_test x.from s (omega (arith, from, lt))

  pub runs_value : (t : ℕ) → arrival_value runs t ≡ arrival_value packed t
  runs_value t =
      let lt : t % day < day = omega arith in
      ap (λ (o : Option Run). run_value o (t / day) (t % day)) (begun_cut (λ (run : Run). run.from) packed (length packed - 1) (t % day) (λ k x late there. end_late (t % day) k x lt late there))

  value_bounded : (s : ℕ) → s < day → arrival_value packed s ≤ 2 ^ 62
  value_bounded s lt =
      let (run, e) = starts_begun (λ (r : Run). r.from) packed s is.over_day.starts in
      let few = begun_all (λ (r : Run). r.from) (λ (r : Run). rule_number r.rule ≤ MAX_NUMBER) packed s run is.limits e in
      let of_run : run_value (run_at packed s) 0 s ≡ rule_value run.rule 0 s = rw e refl in
      let here = value_in_day packed s lt in
      let most = rule_bound run.rule s in
      omega (arith, few, of_run, here, most, lt)

  pub runs_function : IsOnward (arrival_value packed) → IsArrivalFunction runs
  runs_function onward = record {
    limits = λ k d h.
        let long = runs_long in
        let same = run_same k d h in
        let few = is.limits k d (omega (arith, h, long)) in
        subst (λ (r : Run). (r.from < day) × (rule_number r.rule ≤ 2 ^ 62)) (sym same) (run_in_day k d h, omega (arith, few));
    starts = starts_cut (λ (run : Run). run.from) packed (length packed - 1) 0 (let two = two_packed packed is.over_day in omega (arith, two)) is.over_day.starts;
    rises = λ k d h.
        let long = runs_long in
        let here = run_same k d (omega (arith, h)) in
        let next = run_same (k + 1) d h in
        let order = is.over_day.rises k d (omega (arith, h, long)) in
        subst (λ (r : Run). r.from < (get_or runs (k + 1) d).from) (sym here) (subst (λ (r : Run). (get_or packed k d).from < r.from) (sym next) order);
    onward = λ s lt. let same = runs_value s in let on = onward s lt in omega (arith, same, on);
    fifo = λ s lt. let here = runs_value s in let next = runs_value (s + 1) in let up = is.fifo s lt in omega (arith, here, next, up);
    bounded = λ s lt. let same = runs_value s in let few = value_bounded s lt in omega (arith, same, few);
  }

-- a function never arrives before it leaves, whatever it takes at least
pub travelled_onward : (packed : List Run) (least : ℕ) → TakesAtLeast packed least → IsOnward (arrival_value packed)
travelled_onward packed least slower t lt = let late = slower t lt in omega (arith, late)
