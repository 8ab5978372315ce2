use Rattle.std.proofs.Common.{rules, ◌≡◌, None}
use Rattle.cu_wait.specs.Steps.ReadRows.{points_refusal}
use Rattle.cu_wait.proofs.CheckLaws.{measured_points}
use Rattle.cu_wait.proofs.checks.points_refusal.Goals as goal

pub returns-in_err-row-clause-measured : goal.returns-in_err-row-clause-measured
returns-in_err-row-clause-measured c = λ none.
    let passed : points_refusal c.args.first c.args.wrong_mode c.args.points.now ≡ None = search rules in
    measured_points c.args.first c.args.wrong_mode c.args.points.now passed
