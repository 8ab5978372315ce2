-- The search of a latest departure: seconds that are in time, and seconds that aren't.
use Rattle.std.specs.Prelude.{ℕ, ◌≡◌, ◌≤◌, ◌<◌, ◌+◌, ◌^◌, ◌⊎◌}
use Rattle.cu_model.specs.declared.limits.TheConstants.{DAY}
use Rattle.cu_interval.specs.Hierarchies.{HierarchyValue}
use Rattle.cu_sweep.specs.declared.finding.Found.{Found}
use Rattle.cu_sweep.specs.declared.finding.Found.TheVariants.{Arrive, NoWalk, Long}
use Rattle.cu_sweep.specs.Answers.{IsLeastWhereBuilt}
use Rattle.cu_sweep.specs.Sweeps.{found}
use Rattle.cu_reach.specs.declared.departures.Journey.{Journey}

-- a second whose answer is in time; where the hierarchy is built, it is the least arrival
pub record IsInTime (h : HierarchyValue) (journey : Journey) (second arrival : ℕ) : Type 0 where
  pub answer : found h journey.from journey.to second ≡ Arrive arrival
  pub by : arrival ≤ journey.by
  pub least : IsLeastWhereBuilt h journey.from journey.to second (Arrive arrival)

-- an answer that isn't in time
abbrev pub IsLate : ℕ → Found → Type 0
IsLate by (Arrive arrival) = by < arrival
IsLate by NoWalk = Unit {0}
IsLate by (Long edge dir second) = ⊥

-- a second whose answer isn't in time; where the hierarchy is built, it is the least arrival, or there is no walk
pub record IsTooLate (h : HierarchyValue) (journey : Journey) (second : ℕ) : Type 0 where
  pub answer : Found
  pub late : IsLate journey.by answer
  pub least : IsLeastWhereBuilt h journey.from journey.to second answer

-- a second that is in time, and a later one that isn't or is the day's end; the queries that are left can tell those between apart
pub record Searched (h : HierarchyValue) (journey : Journey) (early arrival late left : ℕ) : Type 0 where
  pub between : early < late
  pub day : late ≤ DAY
  pub in_time : IsInTime h journey early arrival
  pub too_late : (late ≡ DAY) ⊎ IsTooLate h journey late
  pub few : left ≤ 18
  pub findable : late ≤ early + 2 ^ left
