-- Lists of runs over a day: which run is in force, and what the list's value is then.
use Rattle.std.proofs.Common.{◌≡◌, ◌≤◌, ◌<◌, ◌+◌, ◌-◌, ◌*◌, ◌/◌, ◌%◌, ◌∙◌, ℕ, zero, suc, List, [], ◌∷◌, Some, refl, ap, subst, arith, inl, inr, length, get_or}
use Rattle.std.specs.Prelude.{slice_get}
use Rattle.std.specs.Option.{option_map}
use Rattle.std.proofs.lemmas.Bool.{cases_lt}
use Rattle.std.proofs.lemmas.Option.{get_or_from_slice_get, slice_get_within}
use Rattle.cu_model.specs.Days.{day, RepeatsDaily}
use Rattle.cu_model.proofs.Begun.{begun_until, rises_between}
use Rattle.cu_arrival.specs.declared.runs.Run.{Run}
use Rattle.cu_arrival.specs.declared.runs.RunRule.{RunRule}
use Rattle.cu_arrival.specs.declared.runs.RunRule.TheVariants.{Shift, Fixed}
use Rattle.cu_arrival.specs.Runs.{run_at, run_value, rule_value, arrival_value, arrives}
use Rattle.cu_arrival.proofs.RunLaws.{value_at, value-days}
use Rattle.cu_runs.specs.PackedRuns.{IsDayList}
use Rattle.cu_runs.specs.Steps.Linking.{after_shift}

-- the item of an index, of which something is known
pub item_from : {A B : Type 0} (f : A → B) (xs : List A) (i : ℕ) (b : B) → option_map f (slice_get xs i) ≡ Some b
    → (x : A) × (slice_get xs i ≡ Some x) × (f x ≡ b)
item_from f [] i b e = absurd (cc e)
item_from f (x ∷ xs) zero b e = (x, refl, cc e)
item_from f (x ∷ xs) (suc i) b e = item_from f xs i b e

module _ (packed : List Run) (is : IsDayList packed) where
  first_from : (d : Run) → (0 < length packed) × ((get_or packed 0 d).from ≡ 0)
  first_from d =
      let (x, there, from) = item_from (λ (run : Run). run.from) packed 0 0 is.starts in
      let same : get_or packed 0 d ≡ x = get_or_from_slice_get packed 0 x d there in
      (slice_get_within packed 0 x there, ap (λ (run : Run). run.from) same ∙ from)

  pub last_from : (d : Run) → (0 < length packed) × ((get_or packed (length packed - 1) d).from ≡ day)
  last_from d =
      let (x, there, from) = item_from (λ (run : Run). run.from) packed (length packed - 1) day is.ends in
      let same : get_or packed (length packed - 1) d ≡ x = get_or_from_slice_get packed (length packed - 1) x d there in
      let inside = slice_get_within packed (length packed - 1) x there in
      (omega (arith, inside), ap (λ (run : Run). run.from) same ∙ from)

  -- a run from before the end of the day has a next one
  pub has_next : (i : ℕ) (d : Run) → i < length packed → (get_or packed i d).from < day → i + 1 < length packed
  has_next i d inside before =
      let last = last_from d in
      elim (cases_lt (i + 1) (length packed)) [
        | inl lt ↦ lt
        | inr ge ↦
            let place : length packed - 1 ≡ i = omega (arith, ge, inside) in
            let end = subst (λ (k : ℕ). (get_or packed k d).from ≡ day) place last.1 in
            absurd (omega (arith, end, before))
      ]

  -- and no run is from later than the end of the day
  pub from_in_day : (i : ℕ) (d : Run) → i < length packed → (get_or packed i d).from ≤ day
  from_in_day i d inside =
      let last = last_from d in
      elim (cases_lt i (length packed - 1)) [
        | inl lt ↦ let order = rises_between (λ (run : Run). run.from) packed is.rises d i (length packed - 1) lt (omega (arith, inside)) in omega (arith, order, last.1)
        | inr ge ↦
            let place : length packed - 1 ≡ i = omega (arith, ge, inside) in
            let end = subst (λ (k : ℕ). (get_or packed k d).from ≡ day) place last.1 in
            omega (arith, end)
      ]

  -- the end of the day is where the last run is from
  pub is_last : (i : ℕ) (d : Run) → i < length packed → day ≤ (get_or packed i d).from → length packed ≡ i + 1
  is_last i d inside late =
      let last = last_from d in
      elim (cases_lt i (length packed - 1)) [
        | inl lt ↦ let order = rises_between (λ (run : Run). run.from) packed is.rises d i (length packed - 1) lt (omega (arith, inside)) in absurd (omega (arith, order, last.1, late))
        | inr ge ↦ omega (arith, ge, inside)
      ]

  -- there are a run and an end
  pub two_packed : 1 < length packed
  two_packed =
      let d : Run = record { from = 0; rule = Shift 0 } in
      let first = first_from d in
      has_next 0 d first.0 (omega (arith, first.1))

  pub starts_from : (d : Run) → (get_or packed 0 d).from ≡ 0
  starts_from d = (first_from d).1

  pub repeats : RepeatsDaily (arrival_value packed)
  repeats = value-days packed is.starts

  pub next_from : (i : ℕ) (d : Run) → i + 1 < length packed → (get_or packed i d).from < (get_or packed (i + 1) d).from
  next_from i d inside = is.rises i d inside

  -- the run in force
  pub in_force : (i s : ℕ) (d : Run) → i + 1 < length packed → (get_or packed i d).from ≤ s → s < (get_or packed (i + 1) d).from
      → run_at packed s ≡ Some (get_or packed i d)
  in_force i s d inside begun next =
      let same : i + 1 ≡ suc i = omega arith in
      begun_until (λ (run : Run). run.from) packed is.rises d i s (omega (arith, inside)) begun
      (λ within. subst (λ (k : ℕ). s < (get_or packed k d).from) same next)

rule_on_day : (r : RunRule) (k u t seconds midnight : ℕ) → midnight ≡ k * day → t + seconds ≡ k * day + u
    → rule_value r k u ≡ arrives (after_shift r seconds midnight) t
rule_on_day (Shift d) k u t seconds midnight e f = omega (arith, e, f)
rule_on_day (Fixed c) k u t seconds midnight e f = omega (arith, e, f)

module _ (packed : List Run) (is : IsDayList packed) where
  -- what the run in force says, leaving so many seconds after this second
  pub value_after : (i t seconds midnight : ℕ) (d : Run) → midnight % day ≡ 0 → i + 1 < length packed → midnight + (get_or packed i d).from ≤ t + seconds
      → t + seconds < midnight + (get_or packed (i + 1) d).from
      → arrival_value packed (t + seconds) ≡ arrives (after_shift (get_or packed i d).rule seconds midnight) t
  value_after i t seconds midnight d whole inside begun next =
      let k = midnight / day in
      let u = (t + seconds) - midnight in
      let is_k : midnight ≡ (midnight / day) * day = omega (arith, whole) in
      let parts : t + seconds ≡ (midnight / day) * day + ((t + seconds) - midnight) = omega (arith, is_k, begun) in
      let until = from_in_day packed is (i + 1) d inside in
      let in_day : u < day = omega (arith, until, next) in
      let last = in_force packed is i u d inside (omega (arith, begun)) (omega (arith, next)) in
      let at_parts : arrival_value packed (t + seconds) ≡ run_value (run_at packed u) k u = ap (λ (n : ℕ). arrival_value packed n) parts ∙ value_at packed k u in_day in
      let of_run : run_value (run_at packed u) k u ≡ rule_value (get_or packed i d).rule k u = rw last refl in
      at_parts ∙ of_run ∙ rule_on_day (get_or packed i d).rule k u t seconds midnight is_k parts

arrives_at_once : (r : RunRule) (t : ℕ) → arrives (after_shift r 0 0) t ≡ arrives r t
arrives_at_once (Shift d) t = omega arith
arrives_at_once (Fixed c) t = omega arith

-- on day 0 the run in force says the value
pub value_in_force : (packed : List Run) → IsDayList packed → (i t : ℕ) (d : Run) → i + 1 < length packed → (get_or packed i d).from ≤ t
    → t < (get_or packed (i + 1) d).from → arrival_value packed t ≡ arrives (get_or packed i d).rule t
value_in_force packed is i t d inside begun next =
    let same : t + 0 ≡ t = omega arith in
    let value = value_after packed is i t 0 0 d refl inside (omega (arith, begun)) (omega (arith, next)) in
    subst (λ (n : ℕ). arrival_value packed n ≡ arrives (get_or packed i d).rule t) same (value ∙ arrives_at_once (get_or packed i d).rule t)
