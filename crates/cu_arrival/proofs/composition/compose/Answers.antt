use Rattle.std.proofs.Common.{arith, ◌≡◌, ◌≤◌, ◌^◌, ℕ, sym, List, subst, refl, rules}
use Rattle.cu_model.specs.Days.{day}
use Rattle.cu_arrival.specs.declared.runs.Run.{Run}
use Rattle.cu_arrival.specs.declared.stretches.Stretch.{Stretch}
use Rattle.cu_arrival.specs.Runs.{arrival_value}
use Rattle.cu_arrival.specs.Steps.Stretches.{IsStretch}
use Rattle.cu_arrival.proofs.ComposeLaws.{IsComposing, composed, composed_day, composing_step}
use Rattle.cu_arrival.proofs.Built.{IsBuilt, built_function, built_value}
use Rattle.cu_arrival.proofs.composition.compose.Goals as goal

pub reach-second_stretch-requires-clause-stretch : goal.reach-second_stretch-requires-clause-stretch
reach-second_stretch-requires-clause-stretch c =
    let midway : arrival_value c.runs-first_runs.result.now c.day.at ≡ c.arrive_by.result = search rules in
    subst (λ (t : ℕ). IsStretch c.runs-second_runs.result.now c.day.second_stretch t) midway c.day.invariant.on_second

pub reach-second_stretch-requires-clause-time : goal.reach-second_stretch-requires-clause-time
reach-second_stretch-requires-clause-time c =
    let midway : arrival_value c.runs-first_runs.result.now c.day.at ≡ c.arrive_by.result = search rules in
    let bounded : arrival_value c.args.first.now c.day.at ≤ 2 ^ 62 = c.runs-first_runs.ensures.valid.bounded c.day.at (omega arith) in
    let here : arrival_value c.runs-first_runs.result.now c.day.at ≤ 2 ^ 62 = subst (λ (runs : List Run). arrival_value runs c.day.at ≤ 2 ^ 62) (sym c.runs-first_runs.ensures.all) bounded in
    subst (λ (t : ℕ). t ≤ 2 ^ 62) midway here

pub day-preserved : goal.day-preserved
day-preserved c =
    composing_step c.runs-first_runs.result.now c.runs-second_runs.result.now c.day.runs c.push_run.new.runs c.day.first_stretch c.day.second_stretch c.day.at
    c.link_stretches-step.result _ (search rules) (search rules) c.day.invariant (omega arith) c.reach-first_stretch.result c.reach-second_stretch.result
    c.reach-first_stretch.ensures.stretch c.reach-first_stretch.ensures.holds (search rules) (search rules) c.link_stretches-step.ensures.link c.link_stretches-step.ensures.reached
    refl refl c.in_ok-push_run.ensures

whole_day : (first second runs : List Run) (x y : Stretch) (at : ℕ) → IsComposing first second runs x y at → day ≤ at → IsBuilt (composed first second) runs day
whole_day first second runs x y at is late =
    let end : at ≡ day = omega (arith, is.within, late) in
    subst (λ (t : ℕ). IsBuilt (composed first second) runs t) end is.built

pub of_runs-requires : goal.of_runs-requires
of_runs-requires c =
    let first = c.runs-first_runs.result.now in
    let second = c.runs-second_runs.result.now in
    built_function (composed first second) c.day.runs (whole_day first second c.day.runs c.day.first_stretch c.day.second_stretch c.day.at c.day.invariant (omega arith))
    (composed_day first second (search rules) (search rules))

pub returns-clause-value : goal.returns-clause-value
returns-clause-value c t h =
    let first = c.runs-first_runs.result.now in
    let second = c.runs-second_runs.result.now in
    let value : arrival_value c.day.runs t ≡ composed first second t =
    built_value (composed first second) c.day.runs (whole_day first second c.day.runs c.day.first_stretch c.day.second_stretch c.day.at c.day.invariant (omega arith)) t h in
    cc (value, c.of_runs.ensures, c.runs-first_runs.ensures.all, c.runs-second_runs.ensures.all)
