use Rattle.std.proofs.Common.{arith, ◌≡◌, ◌≤◌, ℕ, List, subst, refl, rules}
use Rattle.cu_model.specs.Days.{day}
use Rattle.cu_arrival.specs.declared.runs.Run.{Run}
use Rattle.cu_arrival.specs.declared.stretches.Stretch.{Stretch}
use Rattle.cu_arrival.specs.Steps.TwoRules.{IsEarlier}
use Rattle.cu_arrival.specs.Runs.{arrival_value}
use Rattle.cu_arrival.proofs.MinimumLaws.{IsLeastUntil, least_of, least_day, least_step}
use Rattle.cu_arrival.proofs.Built.{built_function, built_value}
use Rattle.cu_arrival.proofs.minimum.least.Goals as goal

pub day-preserved : goal.day-preserved
day-preserved c =
    let first = c.reach-first_stretch.result in
    let second = c.reach-second_stretch.result in
    let earlier = subst (λ (end : ℕ). IsEarlier first.rule second.rule c.day.at end c.earlier_rule-step.result) c.min-end.ensures c.earlier_rule-step.ensures in
    least_step c.runs-first_runs.result.now c.runs-second_runs.result.now c.day.at c.earlier_rule-step.result (search rules) (search rules)
    first second c.reach-first_stretch.ensures.stretch c.reach-second_stretch.ensures.stretch earlier
    c.day.runs c.push_run.new.runs c.day.first_stretch c.day.second_stretch _ c.day.invariant (omega arith) (search rules) refl refl c.in_ok-push_run.ensures

whole_day : (first second runs : List Run) (x y : Stretch) (at : ℕ) → IsLeastUntil first second runs x y at → day ≤ at → IsLeastUntil first second runs x y day
whole_day first second runs x y at is late =
    let end : at ≡ day = omega (arith, is.within, late) in
    subst (λ (t : ℕ). IsLeastUntil first second runs x y t) end is

pub of_runs-requires : goal.of_runs-requires
of_runs-requires c =
    let first = c.runs-first_runs.result.now in
    let second = c.runs-second_runs.result.now in
    let whole = whole_day first second c.day.runs c.day.first_stretch c.day.second_stretch c.day.at c.day.invariant (omega arith) in
    built_function (least_of first second) c.day.runs whole.built (least_day first second (search rules) (search rules))

pub returns-clause-value : goal.returns-clause-value
returns-clause-value c t h =
    let first = c.runs-first_runs.result.now in
    let second = c.runs-second_runs.result.now in
    let whole = whole_day first second c.day.runs c.day.first_stretch c.day.second_stretch c.day.at c.day.invariant (omega arith) in
    let value : arrival_value c.day.runs t ≡ least_of first second t = built_value (least_of first second) c.day.runs whole.built t h in
    cc (value, c.of_runs.ensures, c.runs-first_runs.ensures.all, c.runs-second_runs.ensures.all)
