use Rattle.std.proofs.Common.{arith, ◌≡◌, ◌<◌, ◌∙◌, ℕ, subst}
use Rattle.cu_model.proofs.Growing.{grown_push}
use Rattle.cu_arrival.specs.declared.runs.Run.{Run}
use Rattle.cu_arrival.specs.declared.runs.RunRule.{RunRule}
use Rattle.cu_arrival.specs.Runs.{arrives}
use Rattle.cu_filling.specs.Filling.{SaysUpTo}
use Rattle.cu_filling.proofs.linking.add_linked.Goals as goal

pub steps-preserved : goal.steps-preserved
steps-preserved c =
    let inside = c.steps.invariant in
    let low = inside.low in
    let step = c.step_at-step.result in
    let said = c.step_at-step.ensures in
    let some = said.some in
    let more : c.steps.at < c.min-end.result = omega (arith, c.min-end.ensures, some, c.steps-test.true) in
    record {
      low = omega (arith, low, more);
      high = omega (arith, c.min-end.ensures);
      says = λ f before agrees.
          grown_push (λ (r : Run). r.from) (λ (r : Run). r.rule) (λ (rule : RunRule) (s : ℕ). arrives rule s ≡ f s)
          c.steps.whole.items c.push_run.new.list.items step.run c.steps.at c.min-end.result (inside.says f before agrees) c.in_ok-push_run.ensures said.from more
          (λ s late early. said.says s late (omega (arith, early, c.min-end.ensures)) ∙ agrees s (omega (arith, low, late)) (omega (arith, early, c.min-end.ensures)));
    }

pub returns : goal.returns
returns c f before agrees =
    let high = c.steps.invariant.high in
    subst (λ (n : ℕ). SaysUpTo f c.steps.whole.items n) (omega (arith, high, c.steps-test.false)) (c.steps.invariant.says f before agrees)
