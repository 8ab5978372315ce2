-- How the second at which one leaves is found, leg by leg.
use Rattle.std.specs.Prelude.{ℕ, List, Option, Some, None, ◌≡◌, ◌≤◌, ◌<◌, ◌+◌, slice_get}
use Rattle.cu_model.specs.Days.{day}
use Rattle.cu_wait.specs.declared.left.Best.{Best}
use Rattle.cu_wait.specs.declared.legs.Leg.{Leg}
use Rattle.cu_wait.specs.declared.points.Point.{Point}
use Rattle.cu_wait.specs.Legs.{IsLeg, leg_arrival}
use Rattle.cu_wait.specs.Measured.{raw_arrival}

abbrev pub second_by : Option Point → ℕ
second_by None = day
second_by (Some point) = point.second

-- where the leg behind a point begins, or the day ends
abbrev pub begins : List Point → ℕ → ℕ
begins points index = second_by (slice_get points index)

-- the leg behind a point, in which the profile arrives as the leg says
pub record IsLegAt (points : List Point) (index : ℕ) (leg : Leg) : Type 0 where
  pub sound : IsLeg leg
  pub from : leg.from ≡ begins points index
  pub until : leg.until ≡ begins points (index + 1)
  pub arrives : (s : ℕ) → leg.from ≤ s → s < leg.until → raw_arrival points s ≡ leg_arrival leg s

-- of the seconds from one until before another, the first at which the value is least, and this value
pub record IsBestUntil (f : ℕ → ℕ) (second until : ℕ) (best : Best) : Type 0 where
  pub later : second ≤ best.second
  pub before : best.second < until
  pub arrival : f best.second ≡ best.arrival
  pub least : (s : ℕ) → second ≤ s → s < until → best.arrival ≤ f s
  pub first : (s : ℕ) → second ≤ s → s < best.second → best.arrival < f s
