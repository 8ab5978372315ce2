-- Each point so far is later than the one before.
use Rattle.std.proofs.Common.{◌≡◌, ◌+◌, ℕ, List, [], ◌∷◌, Option, Some, None, drop}
use Rattle.std.specs.Prelude.{nat_lt, if◌then◌else◌}
use Rattle.cu_wait.specs.declared.points.Point.{Point}
use Rattle.cu_wait.specs.MeasuredTexts.{fallen_from}
use Rattle.cu_wait.specs.Steps.ReadRows.{second_of}
use Rattle.cu_wait.proofs.checks.fallen.Given as goal

-- the first of these points, in the rows from this one on, that isn't later than the one before
abbrev pub fallen_behind : Option Point → ℕ → List Point → Option ℕ
fallen_behind None row points = fallen_from second_of row points
fallen_behind (Some before) row [] = None
fallen_behind (Some before) row (point ∷ points) = if nat_lt before.second point.second then fallen_from second_of row (point ∷ points) else Some row

abbrev pub invariant-points : goal.invariant-points
invariant-points l = (l.row ≡ l.first + l.point-index) × (fallen_from second_of l.first l.points ≡ fallen_behind l.before l.row (drop l.point-index l.points))
