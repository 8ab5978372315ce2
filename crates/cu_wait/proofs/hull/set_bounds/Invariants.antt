-- What is behind the legs from here on was set.
use Rattle.std.proofs.Common.{◌≡◌, ◌≤◌, drop, length}
use Rattle.cu_wait.specs.Legs.{bound_from, bounds_behind}
use Rattle.cu_wait.proofs.hull.set_bounds.Given as goal

abbrev pub invariant-legs : goal.invariant-legs
invariant-legs l =
    (l.behind ≤ length l.legs) × (length l.bounds ≡ length l.legs) × (drop l.behind l.bounds ≡ bounds_behind l.end (drop l.behind l.legs))
    × (l.bound ≡ bound_from l.end (drop l.behind l.legs)) × (l.bound ≤ l.end)

abbrev pub decreases-legs : goal.decreases-legs
decreases-legs l = l.behind
