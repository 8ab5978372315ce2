-- Who leaves before the one second arrives later than who leaves last, and who leaves at the other doesn't.
use Rattle.std.proofs.Common.{◌≤◌, ◌<◌, ◌-◌, ℕ}
use Rattle.cu_wait.specs.Legs.{leg_arrival}
use Rattle.cu_wait.proofs.left.first_as_last.Given as goal

abbrev pub invariant-halves : goal.invariant-halves
invariant-halves l =
    (l.second ≤ l.low) × (l.low ≤ l.high) × (l.high < l.leg.until) × (leg_arrival l.leg l.high ≤ l.arrival)
    × ((t : ℕ) → l.second ≤ t → t < l.low → l.arrival < leg_arrival l.leg t)

abbrev pub decreases-halves : goal.decreases-halves
decreases-halves l = l.high - l.low
