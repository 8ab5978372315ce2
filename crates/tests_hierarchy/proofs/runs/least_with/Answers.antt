use Rattle.std.proofs.Common.{arith, ◌≡◌, ◌≤◌, ◌+◌, ◌∙◌, ℕ, List, ap}
use Rattle.cu_arrival.specs.declared.runs.Run.{Run}
use Rattle.cu_arrival.specs.declared.runs.RunRule.{RunRule}
use Rattle.cu_arrival.specs.declared.runs.RunRule.TheVariants.{Shift, Fixed}
use Rattle.cu_arrival.specs.Runs.{arrival_value, arrives, rule_number}
use Rattle.tests_hierarchy.proofs.runs.least_with.Goals as goal

soon : (r : RunRule) (t : ℕ) → arrives r t ≤ t + rule_number r
soon (Shift d) t = omega arith
soon (Fixed c) t = omega arith

pub least_runs-requires : goal.least_runs-requires
least_runs-requires c t h =
    let stay = ap (λ (xs : List Run). arrival_value xs t) c.deref.ensures.value ∙ c.in_ok-stay.ensures.value t h in
    let now = ap (λ (r : RunRule). arrives r t) c.of.ensures.rule in
    let at_once : arrival_value c.deref.result.now t ≡ t = omega (arith, stay, now) in
    let there : arrival_value c.deref-2.result.now (arrival_value c.deref.result.now t) ≡ arrives c.args.run.rule t =
    ap (arrival_value c.deref-2.result.now) at_once ∙ ap (λ (xs : List Run). arrival_value xs t) c.deref-2.ensures.value ∙ c.in_ok-function.ensures.value t h in
    let least = c.in_ok-add.ensures.arrival t h in
    let near = soon c.args.run.rule t in
    omega (arith, least, there, near, c.requires.number, h)
