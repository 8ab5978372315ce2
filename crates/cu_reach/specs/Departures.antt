-- Latest departures.
use Rattle.std.specs.Prelude.{ℕ, zero, suc, List, ◌≡◌, ◌≤◌, ◌<◌, ◌+◌, ◌-◌, ◌^◌, Option, Some, flat_map, if◌then◌else◌, length, max, min, nat_le, nat_lt, slice_get}
use Rattle.cu_model.specs.Days.{day}
use Rattle.cu_model.specs.Networks.{NetworkValue}
use Rattle.cu_model.specs.Roads.{HasNoWalk, IsLeastArrival}
use Rattle.cu_interval.specs.declared.relaxing.Call.{Call}
use Rattle.cu_interval.specs.Hierarchies.{HierarchyValue, IsBuilt}
use Rattle.cu_sweep.specs.declared.finding.Found.{Found}
use Rattle.cu_sweep.specs.declared.finding.Found.TheVariants as found_as
use Rattle.cu_sweep.specs.Answers.{IsReal}
use Rattle.cu_sweep.specs.Desks.{DeskValue, HoldsFound}
use Rattle.cu_sweep.specs.Sweeps.{AddsAll, found, sweep_calls, until_long}
use Rattle.cu_reach.specs.declared.departures.Departure.{Departure}
use Rattle.cu_reach.specs.declared.departures.Departure.TheVariants.{Depart, TooLate, NoWalk, Long}

-- the latest second by which one may ask to arrive
abbrev pub latest_by : ℕ
latest_by = 2 ^ 40

-- leaving at second 0 is in time
abbrev pub IsInTimeAtNought : HierarchyValue → ℕ → ℕ → ℕ → Type 0
IsInTimeAtNought h from to by = (arrival : ℕ) × (found h from to 0 ≡ found_as.Arrive arrival) × (arrival ≤ by)

-- In any hierarchy: no walk, or too late, exactly where the answer at second 0 is none, or later; else a second of the day whose answer
-- is in time; or the call of some query whose walk is too long.
abbrev pub IsDeparture : HierarchyValue → ℕ → ℕ → ℕ → Departure → Type 0
IsDeparture h from to by NoWalk = found h from to 0 ≡ found_as.NoWalk
IsDeparture h from to by TooLate = (arrival : ℕ) × (found h from to 0 ≡ found_as.Arrive arrival) × (by < arrival)
IsDeparture h from to by (Depart second arrive) =
    IsInTimeAtNought h from to by × (second < day) × (found h from to second ≡ found_as.Arrive arrive) × (arrive ≤ by)
IsDeparture h from to by (Long edge dir at) = (second : ℕ) × (second < day) × (found h from to second ≡ found_as.Long edge dir at)

-- The second that is asked next, between one from which the walk arrives in time, with so many seconds to spare, and one that is too late:
-- that at which this walk would leave to arrive just in time if it took as long then; but between the two, and no further than half of
-- what the queries left can tell apart from either.
abbrev pub next_second : (early spare late half : ℕ) → ℕ
next_second early spare late half = min (max (min (max (early + spare) (early + 1)) (late - 1)) (late - half)) (early + half)

-- what the answer at a second comes to: it is in time, or late, or there is no walk; a walk that is too long is the end of the search
abbrev pub by_answer : (by : ℕ) → Found → (in_time : ℕ → Departure) → (late none : Departure) → Departure
by_answer by (found_as.Arrive arrival) in_time late none = if nat_le arrival by then in_time arrival else late
by_answer by found_as.NoWalk in_time late none = none
by_answer by (found_as.Long edge dir at) in_time late none = Long edge dir at

-- The departure that a search by so many more queries comes to, between a second that is in time, with its arrival, and a later one that
-- isn't: the first of the two, where no second lies between them.
unfoldable pub searched : HierarchyValue → (from to by left early arrival late : ℕ) → Departure
searched h from to by zero early arrival late = Depart early arrival
searched h from to by (suc left) early arrival late =
    let second = next_second early (by - arrival) late (2 ^ left) in
    if nat_lt (early + 1) late
    then by_answer by (found h from to second) (λ next. searched h from to by left second next late)
    (searched h from to by left early arrival second) (searched h from to by left early arrival second)
    else Depart early arrival

-- The one departure that a hierarchy, built or not, has: no walk, or too late, by the answer at second 0; else what a search of the day
-- comes to from there.
abbrev pub departure_of : HierarchyValue → (from to by : ℕ) → Departure
departure_of h from to by = by_answer by (found h from to 0) (λ arrival. searched h from to by 18 0 arrival day) TooLate NoWalk

-- By the least arrival at each second, where there is a way at all: the greatest second of the day that is in time, with its arrival; or that
-- second 0 is too late already.
abbrev pub IsLatestOf : (ℕ → ℕ → Type 0) → Type 0 → ℕ → Departure → Type 0
IsLatestOf IsLeastAt NoWay by NoWalk = NoWay
IsLatestOf IsLeastAt NoWay by TooLate = (arrival : ℕ) × IsLeastAt 0 arrival × (by < arrival)
IsLatestOf IsLeastAt NoWay by (Depart second arrive) = IsLeastAt second arrive × (second < day) × (arrive ≤ by)
    × ((later arrival : ℕ) → second < later → later < day → IsLeastAt later arrival → by < arrival)
IsLatestOf IsLeastAt NoWay by (Long edge dir at) = ⊥

-- the same over all walks
abbrev pub IsLatest : NetworkValue → ℕ → ℕ → ℕ → Departure → Type 0
IsLatest g u v by departure = IsLatestOf (λ second arrival. IsLeastArrival g u v second arrival) (HasNoWalk g u v) by departure

-- where the hierarchy is built, this is the latest departure between the nodes of the ranks
abbrev pub IsLatestWhereBuilt : HierarchyValue → ℕ → ℕ → ℕ → Departure → Type 0
IsLatestWhereBuilt h from to by departure =
    IsBuilt h → (u v : ℕ) → slice_get h.order.node_at from ≡ Some u → slice_get h.order.node_at to ≡ Some v
    → IsLatest h.network u v by departure

-- the sweep calls of some queries were added, at most so many
abbrev pub AddsQueries : HierarchyValue → ℕ → ℕ → ℕ → Option (List Call) → Option (List Call) → Type 0
AddsQueries h from to most before now =
    (seconds : List ℕ) × (length seconds ≤ most) × AddsAll before now (flat_map (λ second. until_long h (sweep_calls h from to second)) seconds)

-- where it departs, the desk holds the walk of the query at that second
abbrev pub HoldsDeparture : HierarchyValue → ℕ → ℕ → Departure → DeskValue → Type 0
HoldsDeparture h from to NoWalk desk = Unit {0}
HoldsDeparture h from to TooLate desk = Unit {0}
HoldsDeparture h from to (Depart second arrive) desk = HoldsFound h from to second (found_as.Arrive arrive) desk
HoldsDeparture h from to (Long edge dir at) desk = Unit {0}

-- in any hierarchy, where it departs, the roads of these calls are a walk between the nodes of the ranks, and arrive when it is said
abbrev pub IsRealDeparture : HierarchyValue → ℕ → ℕ → List Call → Departure → Type 0
IsRealDeparture h from to calls NoWalk = Unit {0}
IsRealDeparture h from to calls TooLate = Unit {0}
IsRealDeparture h from to calls (Depart second arrive) = IsReal h from to second calls (found_as.Arrive arrive)
IsRealDeparture h from to calls (Long edge dir at) = Unit {0}
