-- The leg was listed up to this second.
use Rattle.std.proofs.Common.{◌≡◌, ◌≤◌, ◌<◌, ◌-◌, ℕ, min}
use Rattle.cu_wait.specs.Legs.{leg_least}
use Rattle.cu_wait.specs.Steps.Listed.{IsListed}
use Rattle.cu_wait.proofs.hull.list_leg.Given as goal

abbrev pub invariant-stretches : goal.invariant-stretches
invariant-stretches l =
    (l.leg.from ≤ l.second) × (l.second ≤ l.leg.until) × (l.listing.last.from ≤ l.second)
    × ((f : ℕ → ℕ) → ((t : ℕ) → l.leg.from ≤ t → t < l.leg.until → f t ≡ min (leg_least l.leg t) l.bound) → IsListed f l.fn.listing l.leg.from
    → IsListed f l.listing l.second)

abbrev pub decreases-stretches : goal.decreases-stretches
decreases-stretches l = l.leg.until - l.second
