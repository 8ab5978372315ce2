-- One step of a composition, and that a composition is an arrival function.
use Rattle.std.proofs.Common.{◌≡◌, ◌≤◌, ◌<◌, ◌+◌, ◌-◌, ◌^◌, ◌∙◌, ℕ, List, sym, ap, subst, arith, min}
use Rattle.cu_model.specs.Days.{day}
use Rattle.cu_arrival.specs.declared.runs.Run.{Run}
use Rattle.cu_arrival.specs.declared.runs.RunRule.{RunRule}
use Rattle.cu_arrival.specs.declared.stretches.Stretch.{Stretch}
use Rattle.cu_arrival.specs.declared.composition.Linked.{Linked}
use Rattle.cu_arrival.specs.Runs.{rule_number, arrival_value, IsArrivalFunction, arrives}
use Rattle.cu_model.specs.Growing.{IsPushed}
use Rattle.cu_arrival.specs.Steps.Stretches.{IsStretch}
use Rattle.cu_arrival.specs.Steps.TwoRules.{IsLinked}
use Rattle.cu_arrival.proofs.RunLaws.{arrival_value-onward, arrival_value-fifo, arrival_value-next_day}
use Rattle.cu_arrival.proofs.StretchLaws.{stretch_later, stretch_value}
use Rattle.cu_arrival.proofs.Built.{IsBuilt, IsDayFunction, built_push}

abbrev pub composed : List Run → List Run → ℕ → ℕ
composed first second t = min (arrival_value second (arrival_value first t)) (2 ^ 62)

-- what is kept from step to step: the runs say the composition before `at`, where both stretches have begun
pub record IsComposing (first second runs : List Run) (x y : Stretch) (at : ℕ) : Type 0 where
  pub within : at ≤ day
  pub built : IsBuilt (composed first second) runs at
  pub on_first : IsStretch first x at
  pub on_second : IsStretch second y (arrival_value first at)

pub composed_day : (first second : List Run) → IsArrivalFunction first → IsArrivalFunction second → IsDayFunction (composed first second)
composed_day first second f g = record {
  onward = λ s h.
      let a = arrival_value-onward first f s in
      let b = arrival_value-onward second g (arrival_value first s) in
      omega (arith, a, b, h);
  fifo = λ s h.
      let a = arrival_value-fifo first f s (s + 1) (omega arith) in
      let b = arrival_value-fifo second g (arrival_value first s) (arrival_value first (s + 1)) a in
      omega (arith, b);
  midnight =
      let a = arrival_value-fifo first f (day - 1) (day + 0) (omega arith) in
      let b = arrival_value-fifo second g (arrival_value first (day - 1)) (arrival_value first (day + 0)) a in
      let c = subst (λ (x : ℕ). arrival_value second (arrival_value first (day - 1)) ≤ arrival_value second x) (arrival_value-next_day first f 0) b in
      let d = arrival_value-next_day second g (arrival_value first 0) in
      omega (arith, c, d);
  bounded = λ s h. omega arith;
}

-- two stretches that are reached, and the rule of the composition from there on
module _ (first second : List Run) (f : IsArrivalFunction first) (g : IsArrivalFunction second) (u v : Stretch) (at : ℕ) (step : Linked) (on_first : IsStretch first u at) (more : at < u.end)
    (on_second : IsStretch second v (arrives u.rule at)) where
  first_here : arrival_value first at ≡ arrives u.rule at
  first_here = stretch_value first u at f on_first at (omega arith) more

  -- the second stretch has begun where the first function arrives later on, too
  pub second_later : (s : ℕ) → at ≤ s → IsStretch second v (arrival_value first s)
  second_later s low =
      let here = first_here in
      let rises = arrival_value-fifo first f at s low in
      stretch_later second v (arrives u.rule at) (arrival_value first s) on_second (omega (arith, here, rises))

  -- their rule says the composition
  pub linked_over : IsLinked u.rule v.rule at u.end step → ((s : ℕ) → at ≤ s → s < step.end → arrives u.rule s < v.end) → (s : ℕ) → at ≤ s → s < step.end
      → arrives step.rule s ≡ composed first second s
  linked_over linked reached s low high =
      let within = linked.within in
      let here = first_here in
      let at_first : arrival_value first s ≡ arrives u.rule s = stretch_value first u at f on_first s low (omega (arith, high, within)) in
      let rises = arrival_value-fifo first f at s low in
      let onwards : arrives u.rule at ≤ arrives u.rule s = omega (arith, here, at_first, rises) in
      let at_second : arrival_value second (arrives u.rule s) ≡ arrives v.rule (arrives u.rule s) =
      stretch_value second v (arrives u.rule at) g on_second (arrives u.rule s) onwards (reached s low high) in
      let both : arrival_value second (arrival_value first s) ≡ arrives v.rule (arrives u.rule s) = ap (λ (t : ℕ). arrival_value second t) at_first ∙ at_second in
      linked.arrival s low high ∙ ap (λ (t : ℕ). min t (2 ^ 62)) (sym both)

pub composing_step : (first second old new : List Run) (x y : Stretch) (at : ℕ) (step : Linked) (run : Run) → IsArrivalFunction first → IsArrivalFunction second
    → IsComposing first second old x y at → at < day → (u v : Stretch) → IsStretch first u at → at < u.end → u.end ≤ day
    → IsStretch second v (arrives u.rule at) → IsLinked u.rule v.rule at u.end step → ((s : ℕ) → at ≤ s → s < step.end → arrives u.rule s < v.end)
    → run.from ≡ at → run.rule ≡ step.rule → IsPushed (λ (r : Run). r.rule) old run new → IsComposing first second new u v step.end
composing_step first second old new x y at step run f g is in_day u v on_first more day_end on_second linked reached from rule pushed =
    let later = linked.later in
    let within = linked.within in
    let means : (s : ℕ) → at ≤ s → s < step.end → arrives run.rule s ≡ composed first second s = λ s low high.
    ap (λ (r : RunRule). arrives r s) rule ∙ linked_over first second f g u v at step on_first more on_second linked reached s low high in
    let limit : rule_number run.rule ≤ 2 ^ 62 = subst (λ (r : RunRule). rule_number r ≤ 2 ^ 62) (sym rule) linked.limit in
    record {
      within = omega (arith, within, day_end);
      built = built_push (composed first second) old new run at step.end is.built pushed from later (omega (arith, within, day_end)) limit means;
      on_first = stretch_later first u at step.end on_first (omega (arith, later));
      on_second = second_later first second f g u v at step on_first more on_second step.end (omega (arith, later));
    }
