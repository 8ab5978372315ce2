use Rattle.std.proofs.Common.{arith, ap, refl, sym, ◌+◌, ◌*◌, ◌/◌, ◌∙◌, ℕ}
use Rattle.cu_model.specs.Days.{day}
use Rattle.cu_arrival.specs.declared.runs.RunRule.{RunRule}
use Rattle.cu_arrival.specs.Runs.{arrives}
use Rattle.cu_filling.proofs.LinkedRuns.{fixed_says, shift_says}
use Rattle.cu_filling.proofs.linking.step_at.Goals as goal

pub returns-then-is_fixed-clause-says : goal.returns-then-is_fixed-clause-says
returns-then-is_fixed-clause-says c t late early =
    let first = c.args.first.now in
    let second = c.args.second.now in
    let between = c.arrival_of-between.result in
    let midnight = between / day * day in
    let to = c.in_force_at-to in
    let on = c.in_force_at-on in
    ap (λ (r : RunRule). arrives r t) c.of.ensures.rule
    ∙ ap (λ (n : ℕ). midnight + n) c.arrival_of.ensures.value
    ∙ fixed_says first.base first.runs.now second.base second.runs.now c.requires.second c.args.at between midnight to.result.end on.result.end to.result.run.rule on.result.run.rule
    c.arrival_of-between.ensures.value refl to.ensures.holds on.ensures.holds on.ensures.in_day (sym c.is_fixed.ensures ∙ c.if-is_fixed.true) on.ensures.some t late (omega (arith, early, c.from.ensures))

pub returns-clause-says : goal.returns-clause-says
returns-clause-says c t late early =
    let first = c.args.first.now in
    let second = c.args.second.now in
    let between = c.arrival_of-between.result in
    let midnight = between / day * day in
    let to = c.in_force_at-to in
    let on = c.in_force_at-on in
    ap (λ (r : RunRule). arrives r t) c.behind-run.ensures.rule
    ∙ shift_says first.base first.runs.now second.base second.runs.now c.requires.second c.args.at between midnight to.result.end on.result.end to.result.run.rule on.result.run.rule
    c.arrival_of-between.ensures.value refl to.ensures.holds on.ensures.holds on.ensures.in_day (sym c.is_fixed.ensures ∙ c.if-is_fixed.false) on.ensures.some t late
    (omega (arith, early, c.min.ensures, c.from-2.ensures, c.from-3.ensures)) (omega (arith, early, c.min.ensures, c.from-2.ensures, c.from-3.ensures))
