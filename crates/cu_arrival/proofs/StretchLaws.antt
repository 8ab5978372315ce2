-- What a stretch says of the arrival function that it is of.
use Rattle.std.proofs.Common.{◌≡◌, ◌≤◌, ◌<◌, ◌+◌, ◌-◌, ◌*◌, ◌/◌, ◌^◌, ◌∙◌, ◌⊎◌, ℕ, suc, List, Some, refl, sym, ap, subst, arith, inl, inr, length, get_or}
use Rattle.std.specs.Prelude.{slice_get}
use Rattle.std.proofs.lemmas.Option.{slice_get-get_or, get_or_from_slice_get, slice_get_within, slice_get_cases}
use Rattle.cu_model.specs.Days.{day}
use Rattle.cu_arrival.specs.declared.runs.Run.{Run}
use Rattle.cu_arrival.specs.declared.runs.RunRule.{RunRule}
use Rattle.cu_arrival.specs.declared.runs.RunRule.TheVariants.{Shift, Fixed}
use Rattle.cu_arrival.specs.declared.stretches.Stretch.{Stretch}
use Rattle.cu_arrival.specs.Runs.{run_at, run_value, rule_value, rule_number, arrival_value, IsRunInLimit, IsArrivalFunction, arrives}
use Rattle.cu_arrival.specs.Steps.Stretches.{on_day, until_next, IsStretch}
use Rattle.cu_model.proofs.Begun.{begun_until}
use Rattle.cu_model.proofs.RoadLaws.{all_at}
use Rattle.cu_arrival.proofs.RunLaws.{value_at}

-- a stretch that begins by a second begins by every later one
pub stretch_later : (runs : List Run) (x : Stretch) (t s : ℕ) → IsStretch runs x t → t ≤ s → IsStretch runs x s
stretch_later runs x t s stretch h =
    let (run, there, begun, rule) = stretch.run in
    record { midnight = stretch.midnight; run = (run, there, omega (arith, begun, h), rule); end = stretch.end }

on_day-arrives : (r : RunRule) (midnight k u s : ℕ) → midnight ≡ k * day → s ≡ k * day + u → rule_value r k u ≡ arrives (on_day r midnight) s
on_day-arrives (Shift d) midnight k u s e f = omega (arith, e, f)
on_day-arrives (Fixed c) midnight k u s e f = omega (arith, e, f)

until_next-day : (runs : List Run) (i : ℕ) → IsArrivalFunction runs → until_next (slice_get runs i) ≤ day
until_next-day runs i f = elim (slice_get_cases runs i).1 [
  | inl found ↦
      let (run, inside, there, same) = found in
      let limit = all_at IsRunInLimit runs i run f.limits there in
      let before : run.from ≤ day = omega (arith, limit.0) in
      rw there before
  | inr past ↦ rw past.1 (omega arith)
]

until_next-from : (runs : List Run) (i : ℕ) (run : Run) → i < length runs → until_next (slice_get runs i) ≡ (get_or runs i run).from
until_next-from runs i run h = rw (slice_get-get_or runs i run h) refl

on_day-number : (r : RunRule) (midnight n : ℕ) → rule_number r ≤ n → rule_number (on_day r midnight) ≤ midnight + n
on_day-number (Shift d) midnight n h = omega (arith, h)
on_day-number (Fixed c) midnight n h = omega (arith, h)

module _ (runs : List Run) (x : Stretch) (t : ℕ) (f : IsArrivalFunction runs) (stretch : IsStretch runs x t) where
  -- while it lasts, its rule says when the function arrives
  pub stretch_value : (s : ℕ) → t ≤ s → s < x.end → arrival_value runs s ≡ arrives x.rule s
  stretch_value s h before =
      let (run, there, begun, rule) = stretch.run in
      let inside : x.index < length runs = slice_get_within runs x.index run there in
      let same : get_or runs x.index run ≡ run = get_or_from_slice_get runs x.index run run there in
      let k = x.midnight / day in
      let u = s - x.midnight in
      let whole : x.midnight ≡ (x.midnight / day) * day = omega (arith, stretch.midnight) in
      let from_midnight : x.midnight ≤ s = omega (arith, begun, h) in
      let parts : s ≡ (x.midnight / day) * day + (s - x.midnight) = omega (arith, whole, from_midnight) in
      let in_day : u < day =
      let until = until_next-day runs (x.index + 1) f in
      let end = stretch.end in
      omega (arith, until, end, before, from_midnight) in
      let started : (get_or runs x.index run).from ≤ u = subst (λ (r : Run). r.from ≤ u) (sym same) (omega (arith, begun, h)) in
      let next : suc x.index < length runs → u < (get_or runs (suc x.index) run).from = λ within.
      let index : x.index + 1 ≡ suc x.index = omega arith in
      let until = subst (λ (i : ℕ). x.end ≡ x.midnight + until_next (slice_get runs i)) index stretch.end in
      let from = until_next-from runs (suc x.index) run within in
      omega (arith, until, from, before, from_midnight) in
      let last : run_at runs u ≡ Some run = begun_until (λ (r : Run). r.from) runs f.rises run x.index u inside started next ∙ ap Some same in
      let at_parts : arrival_value runs s ≡ run_value (run_at runs u) k u = ap (λ (n : ℕ). arrival_value runs n) parts ∙ value_at runs k u in_day in
      let of_run : run_value (run_at runs u) k u ≡ rule_value run.rule k u = rw last refl in
      let of_rule : rule_value run.rule k u ≡ arrives (on_day run.rule x.midnight) s = on_day-arrives run.rule x.midnight k u s whole parts in
      at_parts ∙ of_run ∙ of_rule ∙ ap (λ (r : RunRule). arrives r s) (sym rule)

  -- a stretch in which a second of day 0 lies is of day 0
  pub stretch_day : t < day → (x.midnight ≡ 0) × (x.end ≤ day)
  stretch_day h =
      let (run, there, begun, rule) = stretch.run in
      let until = until_next-day runs (x.index + 1) f in
      let end = stretch.end in
      let whole : x.midnight ≡ (x.midnight / day) * day = omega (arith, stretch.midnight) in
      let none : x.midnight ≡ 0 = omega (arith, whole, begun, h) in
      (none, omega (arith, none, end, until))

  -- and so is within a day of it on any day
  pub stretch_near : (x.midnight ≤ t) × (x.end ≤ t + day)
  stretch_near =
      let (run, there, begun, rule) = stretch.run in
      let until = until_next-day runs (x.index + 1) f in
      let end = stretch.end in
      (omega (arith, begun), omega (arith, begun, end, until))

  -- its rule names no more than 2 ^ 62 seconds from its midnight
  pub stretch_limit : rule_number x.rule ≤ x.midnight + 2 ^ 62
  stretch_limit =
      let (run, there, begun, rule) = stretch.run in
      let limit = all_at IsRunInLimit runs x.index run f.limits there in
      rw rule (on_day-number run.rule x.midnight (2 ^ 62) limit.1)

  -- it ends with its day, or where a run begins
  pub stretch_next : x.midnight ≡ 0 → (x.end ≡ day) ⊎ ((i : ℕ) × (run : Run) × (slice_get runs i ≡ Some run) × (run.from ≡ x.end))
  stretch_next none = elim (slice_get_cases runs (x.index + 1)).1 [
    | inl found ↦
        let (run, inside, there, same) = found in
        let until : until_next (slice_get runs (x.index + 1)) ≡ run.from = rw there refl in
        let end = stretch.end in
        inr (x.index + 1, run, there, omega (arith, none, end, until))
    | inr past ↦
        let until : until_next (slice_get runs (x.index + 1)) ≡ day = rw past.1 refl in
        let end = stretch.end in
        inl (omega (arith, none, end, until))
  ]
