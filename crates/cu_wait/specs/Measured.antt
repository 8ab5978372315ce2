-- Measured profiles: what a list of points says about each second. Leaving later may arrive earlier.
use Rattle.std.specs.Prelude.{ℕ, List, [], ◌∷◌, Some, ◌≡◌, ◌≤◌, ◌<◌, ◌+◌, ◌-◌, ◌*◌, ◌/◌, ◌%◌, nat_le, nat_lt, slice_get, All, if◌then◌else◌}
use Rattle.std.specs.Option.{option_map}
use Rattle.cu_model.specs.declared.limits.TheConstants.{MAX_TRAVEL}
use Rattle.cu_model.specs.Begun.{Rises}
use Rattle.cu_model.specs.Days.{day}
use Rattle.cu_wait.specs.declared.points.Mode.{Mode}
use Rattle.cu_wait.specs.declared.points.Mode.TheVariants.{Line, Step}
use Rattle.cu_wait.specs.declared.points.Point.{Point}

-- What is travelled so many seconds behind a point, where the travel times go from the first to the last in `seconds` seconds on a
-- straight line, rounded down: a fall is rounded up before it is taken off.
abbrev pub on_line : (first last behind seconds : ℕ) → ℕ
on_line first last behind seconds =
    if nat_le first last then first + ((last - first) * behind) / seconds
    else first - ((first - last) * behind + (seconds - 1)) / seconds

-- the travel time at a second between a point and the next one, which is at second `until` and has the travel time `next`
abbrev pub travel_by : Mode → Point → (until next second : ℕ) → ℕ
travel_by Line point until next second = on_line point.travel next (second - point.second) (until - point.second)
travel_by Step point until next second = point.travel

abbrev pub travel_behind : Point → (until next second : ℕ) → ℕ
travel_behind point until next second = travel_by point.mode point until next second

-- the travel time at a second from a point on, where these points come behind it, and behind them the first travel time at the day's end
abbrev pub travel_from : ℕ → Point → List Point → ℕ → ℕ
travel_from first point [] second = travel_behind point day first second
travel_from first point (next ∷ points) second =
    if nat_lt second next.second then travel_behind point next.second next.travel second else travel_from first next points second

-- the travel time at a second of the day; 0 where there is no point, which no measured profile lets happen
abbrev pub measured_travel : List Point → ℕ → ℕ
measured_travel [] second = 0
measured_travel (point ∷ points) second = travel_from point.travel point points second

-- the raw arrival: when it arrives, leaving at an absolute second and not waiting
abbrev pub raw_arrival : List Point → ℕ → ℕ
raw_arrival points t = t + measured_travel points (t % day)

-- a point in the day whose travel time is within the limit
abbrev pub IsPoint : Point → Type 0
IsPoint point = (point.second < day) × (point.travel ≤ MAX_TRAVEL)

-- a measured profile: points within their limits, the first at second 0, each at a later second than the one before
pub record IsMeasured (points : List Point) : Type 0 where
  pub limits : All IsPoint points
  pub starts : option_map (λ (point : Point). point.second) (slice_get points 0) ≡ Some 0
  pub rises : Rises (λ (point : Point). point.second) points
