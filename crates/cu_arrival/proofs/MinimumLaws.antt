-- One step of a minimum, that a minimum is an arrival function, and what the choices come to.
use Rattle.std.proofs.Common.{◌≡◌, ◌≤◌, ◌<◌, ◌+◌, ◌-◌, ◌^◌, ◌∙◌, ℕ, List, Bool, Some, sym, ap, subst, arith, min}
use Rattle.std.specs.Prelude.{nat_lt}
use Rattle.cu_model.specs.Days.{day}
use Rattle.cu_arrival.specs.declared.runs.Run.{Run}
use Rattle.cu_arrival.specs.declared.runs.Choice.{Choice}
use Rattle.cu_arrival.specs.declared.runs.RunRule.{RunRule}
use Rattle.cu_arrival.specs.declared.stretches.Stretch.{Stretch}
use Rattle.cu_arrival.specs.declared.minimum.Earlier.{Earlier}
use Rattle.cu_arrival.specs.Runs.{rule_number, arrival_value, IsArrivalFunction, arrives}
use Rattle.cu_arrival.specs.Choices.{is_second, IsChoices}
use Rattle.cu_model.specs.Growing.{IsPushed}
use Rattle.cu_arrival.specs.Steps.Stretches.{IsStretch}
use Rattle.cu_arrival.specs.Steps.TwoRules.{IsEarlier}
use Rattle.cu_arrival.proofs.RunLaws.{arrival_value-onward, arrival_value-fifo, arrival_value-next_day}
use Rattle.cu_arrival.proofs.StretchLaws.{stretch_later, stretch_value}
use Rattle.cu_model.proofs.Growing.{IsGrown, grown_push}
use Rattle.cu_arrival.proofs.Built.{IsBuilt, IsDayFunction, built_push}

abbrev pub least_of : List Run → List Run → ℕ → ℕ
least_of first second t = min (arrival_value first t) (arrival_value second t)

-- a choice that is the second function's exactly where that is strictly earlier
abbrev pub Tells : List Run → List Run → Bool → ℕ → Type 0
Tells first second chosen s = chosen ≡ is_second first second s

-- what is kept from step to step: runs say the minimum before `at`, where both stretches have begun
pub record IsLeastUntil (first second runs : List Run) (x y : Stretch) (at : ℕ) : Type 0 where
  pub within : at ≤ day
  pub built : IsBuilt (least_of first second) runs at
  pub on_first : IsStretch first x at
  pub on_second : IsStretch second y at

-- and choices say which function it is
pub record IsMerging (first second runs : List Run) (choices : List Choice) (x y : Stretch) (at : ℕ) : Type 0 where
  pub least : IsLeastUntil first second runs x y at
  pub picked : IsGrown (λ (choice : Choice). choice.from) (λ (choice : Choice). choice.second) (Tells first second) choices at

pub least_day : (first second : List Run) → IsArrivalFunction first → IsArrivalFunction second → IsDayFunction (least_of first second)
least_day first second f g = record {
  onward = λ s h.
      let a = arrival_value-onward first f s in
      let b = arrival_value-onward second g s in
      omega (arith, a, b);
  fifo = λ s h.
      let a = arrival_value-fifo first f s (s + 1) (omega arith) in
      let b = arrival_value-fifo second g s (s + 1) (omega arith) in
      omega (arith, a, b);
  midnight =
      let a = arrival_value-fifo first f (day - 1) (day + 0) (omega arith) in
      let b = arrival_value-fifo second g (day - 1) (day + 0) (omega arith) in
      let c = arrival_value-next_day first f 0 in
      let d = arrival_value-next_day second g 0 in
      omega (arith, a, b, c, d);
  bounded = λ s h. let a = f.bounded s h in omega (arith, a);
}

module _ (first second : List Run) (at : ℕ) (step : Earlier) (f : IsArrivalFunction first) (g : IsArrivalFunction second)
    (u v : Stretch) (on_first : IsStretch first u at) (on_second : IsStretch second v at)
    (earlier : IsEarlier u.rule v.rule at (min u.end v.end) step) where
  at_first : (s : ℕ) → at ≤ s → s < step.end → arrival_value first s ≡ arrives u.rule s
  at_first s low high = let within = earlier.within in stretch_value first u at f on_first s low (omega (arith, high, within))

  at_second : (s : ℕ) → at ≤ s → s < step.end → arrival_value second s ≡ arrives v.rule s
  at_second s low high = let within = earlier.within in stretch_value second v at g on_second s low (omega (arith, high, within))

  pub least_step : (old new : List Run) (x y : Stretch) (run : Run) → IsLeastUntil first second old x y at → at < day → u.end ≤ day
      → run.from ≡ at → run.rule ≡ step.rule → IsPushed (λ (r : Run). r.rule) old run new → IsLeastUntil first second new u v step.end
  least_step old new x y run is in_day day_end from rule pushed =
      let later = earlier.later in
      let within = earlier.within in
      let means : (s : ℕ) → at ≤ s → s < step.end → arrives run.rule s ≡ least_of first second s = λ s low high.
      let a = at_first s low high in
      let b = at_second s low high in
      let e = earlier.arrival s low high in
      let r : arrives run.rule s ≡ arrives step.rule s = ap (λ (q : RunRule). arrives q s) rule in
      omega (arith, a, b, e, r) in
      let limit : rule_number run.rule ≤ 2 ^ 62 = subst (λ (r : RunRule). rule_number r ≤ 2 ^ 62) (sym rule) earlier.limit in
      record {
        within = omega (arith, within, day_end);
        built = built_push (least_of first second) old new run at step.end is.built pushed from later (omega (arith, within, day_end)) limit means;
        on_first = stretch_later first u at step.end on_first (omega (arith, later));
        on_second = stretch_later second v at step.end on_second (omega (arith, later));
      }

  pub merging_step : (old new : List Run) (picked more_picked : List Choice) (x y : Stretch) (run : Run) (choice : Choice)
      → IsMerging first second old picked x y at → at < day → u.end ≤ day → run.from ≡ at → run.rule ≡ step.rule → IsPushed (λ (r : Run). r.rule) old run new
      → choice.from ≡ at → choice.second ≡ step.second → IsPushed (λ (c : Choice). c.second) picked choice more_picked
      → IsMerging first second new more_picked u v step.end
  merging_step old new picked more_picked x y run choice is in_day day_end from rule pushed choice_from chosen choice_pushed =
      let later = earlier.later in
      let tells : (s : ℕ) → at ≤ s → s < step.end → choice.second ≡ is_second first second s = λ s low high.
      let a = at_first s low high in
      let b = at_second s low high in
      let e = earlier.strictly s low high in
      chosen ∙ e ∙ ap (λ (t : ℕ). nat_lt t (arrives u.rule s)) (sym b) ∙ ap (λ (t : ℕ). nat_lt (arrival_value second s) t) (sym a) in
      record {
        least = least_step old new x y run is.least in_day day_end from rule pushed;
        picked = grown_push (λ (c : Choice). c.from) (λ (c : Choice). c.second) (Tells first second) picked more_picked choice at step.end is.picked choice_pushed choice_from later tells;
      }

pub merged_choices : (first second runs : List Run) (choices : List Choice) (x y : Stretch) → IsMerging first second runs choices x y day → IsChoices first second choices
merged_choices first second runs choices x y is =
    let tiled = is.picked.tiled in
    record {
      limits = tiled.below;
      starts = tiled.starts (omega arith);
      rises = tiled.rises;
      alternates = is.picked.differs;
      earlier = λ t h. let (choice, last, tells) = tiled.holds t h in rw last (ap Some tells);
    }
