-- The legs before this one were looked at.
use Rattle.std.proofs.Common.{◌≤◌, ◌+◌, ◌*◌, ℕ, length}
use Rattle.cu_model.specs.Days.{day}
use Rattle.cu_wait.specs.Measured.{raw_arrival}
use Rattle.cu_wait.specs.Steps.LeftLegs.{IsBestUntil, begins}
use Rattle.cu_wait.proofs.left.best_behind.Given as goal

abbrev pub invariant-legs : goal.invariant-legs
invariant-legs l = (l.next ≤ length l.points) × ((second : ℕ) → IsBestUntil (raw_arrival l.points) second (l.days * day + begins l.points l.index) l.fn.best
    → IsBestUntil (raw_arrival l.points) second (l.days * day + begins l.points l.next) l.best)
