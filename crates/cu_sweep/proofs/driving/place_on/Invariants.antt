use Rattle.std.proofs.Common.{◌≤◌}
use Rattle.cu_sweep.proofs.driving.place_on.Given as goal

abbrev pub invariant-ranks : goal.invariant-ranks
invariant-ranks l = l.left ≤ l.fn.count

abbrev pub decreases-ranks : goal.decreases-ranks
decreases-ranks l = l.left
