-- A day between the points of a measured profile: its legs, the least of what arrives from a second on, and the bounds that later legs set.
use Rattle.std.specs.Prelude.{ℕ, List, [], ◌∷◌, Bool, true, false, ◌≡◌, ◌≤◌, ◌<◌, ◌+◌, ◌-◌, nat_le, nat_lt, min, if◌then◌else◌}
use Rattle.cu_model.specs.declared.limits.TheConstants.{MAX_TRAVEL}
use Rattle.cu_model.specs.Days.{day}
use Rattle.cu_wait.specs.declared.legs.Leg.{Leg}
use Rattle.cu_wait.specs.declared.points.Mode.{Mode}
use Rattle.cu_wait.specs.declared.points.Mode.TheVariants.{Line, Step}
use Rattle.cu_wait.specs.declared.points.Point.{Point}
use Rattle.cu_wait.specs.Measured.{on_line}

-- a step is a line between two like travel times
abbrev pub last_by : Mode → Point → ℕ → ℕ
last_by Line point next = next
last_by Step point next = point.travel

abbrev pub leg_behind : Point → (until next : ℕ) → Leg
leg_behind point until next = record { from = point.second; until = until; first = point.travel; last = last_by point.mode point next }

-- the legs from a point on, where these points come behind it and behind them the first travel time
abbrev pub legs_from : ℕ → Point → List Point → List Leg
legs_from first point [] = leg_behind point day first ∷ []
legs_from first point (next ∷ points) = leg_behind point next.second next.travel ∷ legs_from first next points

abbrev pub legs_of : List Point → List Leg
legs_of [] = []
legs_of (point ∷ points) = legs_from point.travel point points

abbrev pub leg_arrival : Leg → ℕ → ℕ
leg_arrival leg second = second + on_line leg.first leg.last (second - leg.from) (leg.until - leg.from)

-- whether travel times fall by a second a second or more, so that it is best to leave last
abbrev pub falls : Leg → Bool
falls leg = nat_le (leg.last + (leg.until - leg.from)) leg.first

abbrev pub best_by : Bool → Leg → ℕ → ℕ
best_by true leg second = leg.until - 1
best_by false leg second = second

-- the second of a leg, from this one on, at which who leaves arrives first
abbrev pub best_from : Leg → ℕ → ℕ
best_from leg second = best_by (falls leg) leg second

-- the least arrival in a leg from this second on
abbrev pub leg_least : Leg → ℕ → ℕ
leg_least leg second = leg_arrival leg (best_from leg second)

-- the least arrival of these legs, or this one
abbrev pub bound_from : ℕ → List Leg → ℕ
bound_from end [] = end
bound_from end (leg ∷ legs) = min (leg_least leg leg.from) (bound_from end legs)

-- the arrival at a second of these legs
abbrev pub arrival_in : List Leg → ℕ → ℕ
arrival_in [] second = 0
arrival_in (leg ∷ legs) second = if nat_lt second leg.until then leg_arrival leg second else arrival_in legs second

-- the least arrival of these legs from a second on, or this one
abbrev pub hull_in : ℕ → List Leg → ℕ → ℕ
hull_in end [] second = end
hull_in end (leg ∷ legs) second = if nat_lt second leg.until then min (leg_least leg second) (bound_from end legs) else hull_in end legs second

-- the least arrival of a day from its first second on
abbrev pub day_least : List Leg → ℕ
day_least legs = bound_from (arrival_in legs 0) legs

-- the least arrival from a second of the day on: of this day, or of the next, of which the whole day's least one is enough
abbrev pub hull_at : List Leg → ℕ → ℕ
hull_at legs second = hull_in (day + day_least legs) legs second

-- legs from this second to the day's end, without gaps
abbrev pub Tile : ℕ → List Leg → Type 0
Tile start [] = start ≡ day
Tile start (leg ∷ legs) = (leg.from ≡ start) × (start < leg.until) × Tile leg.until legs

-- a leg of the day, whose travel times are within the limit
pub record IsLeg (leg : Leg) : Type 0 where
  pub some : leg.from < leg.until
  pub inside : leg.until ≤ day
  pub first : leg.first ≤ MAX_TRAVEL
  pub last : leg.last ≤ MAX_TRAVEL

-- what later legs, and then the end, allow behind each leg
abbrev pub bounds_behind : ℕ → List Leg → List ℕ
bounds_behind end [] = []
bounds_behind end (leg ∷ legs) = bound_from end legs ∷ bounds_behind end legs
