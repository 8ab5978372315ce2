use Rattle.std.proofs.Common.{◌≡◌, ◌≤◌, ◌+◌, ◌∙◌, false, arith, sym}
use Rattle.std.proofs.lemmas.Result.{IfOk-weaker}
use Rattle.cu_arrival.specs.Runs.{rule_number}
use Rattle.cu_runs.specs.PackedRuns.{is_fixed}
use Rattle.cu_runs.proofs.CompareLaws.{shift_loses}
use Rattle.cu_runs.proofs.MergeLaws.{merging_later}
use Rattle.cu_runs.proofs.merging.compare_kinds.Goals as goal

pub returns-then-at-until-clause-merged : goal.returns-then-at-until-clause-merged
returns-then-at-until-clause-merged c =
    let held = c.args.held.run.rule in
    let run = c.args.run.rule in
    let until = c.min-until.result in
    let shifts : is_fixed run ≡ false = sym c.is_fixed.ensures ∙ c.if-is_fixed.false in
    let least = c.min-until.ensures in
    IfOk-weaker c.win-then-at-until.result _ _
    (λ x won arrival here is.
    merging_later c.args.least.now arrival c.args.way c.win-then-at-until.new.self until c.args.stretch.end
    (won arrival (λ s late early. here s late (omega (arith, early, least))) is)
    (omega (arith, least))
    (λ s late early.
    let bound : rule_number held + c.args.held.tie ≤ s + rule_number run =
    omega (arith, late, early, least, c.saturating_sub-2.ensures, c.number-2.ensures.number, c.number-3.ensures.number) in
    let lost = shift_loses held run c.args.held.tie s shifts c.requires.differ bound in
    let inside : c.args.stretch.at ≤ s = omega (arith, c.if-at-until.true, late) in
    let arrives = c.requires.held s inside early in
    let tie = c.requires.tie s inside early in
    let same = here s inside early in
    omega (arith, lost, arrives, tie, same)))
    c.win-then-at-until.ensures.won
