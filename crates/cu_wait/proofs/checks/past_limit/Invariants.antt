use Rattle.std.proofs.Common.{◌≡◌, ◌+◌, drop}
use Rattle.cu_wait.specs.MeasuredTexts.{first_that}
use Rattle.cu_wait.specs.Steps.ReadRows.{is_point_past_limit}
use Rattle.cu_wait.proofs.checks.past_limit.Given as goal

abbrev pub invariant-points : goal.invariant-points
invariant-points l =
    (l.row ≡ l.first + l.point-index) × (first_that is_point_past_limit l.first l.points ≡ first_that is_point_past_limit l.row (drop l.point-index l.points))
