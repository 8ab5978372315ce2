-- Both sweeps in time leave the day function at the end, where that is at each second no later than the limit.
use Rattle.std.proofs.Common.{◌≡◌, ◌≤◌, ◌<◌, ◌-◌, ℕ, List, Option, Some, ap, arith}
use Rattle.std.specs.Prelude.{slice_get}
use Rattle.cu_model.specs.Days.{day}
use Rattle.cu_arrival.specs.declared.runs.Run.{Run}
use Rattle.cu_arrival.specs.Runs.{arrival_value}
use Rattle.cu_interval.specs.Hierarchies.{HierarchyValue, IsHierarchy}
use Rattle.cu_sweep.specs.Outlooks.{IsAhead}
use Rattle.cu_day.specs.DayAnswers.{IsLeastWhereBuilt}
use Rattle.cu_day.specs.DayChains.{IsDayFunction, IsLeastChain}
use Rattle.cu_arrival.specs.Behind.{IsBehind}
use Rattle.cu_day.specs.Steps.InTime.{InTime, IsEarly}
use Rattle.cu_day.specs.Steps.Ranks.{HasSwept}
use Rattle.cu_day.specs.Steps.Sweeping.{label_at, value_at}
use Rattle.cu_day.proofs.BuiltDays.{least_of_walks}
use Rattle.cu_day.proofs.BuiltInTime.{no_walk_earlier}
use Rattle.cu_day.proofs.Counted.{in_time_counted}
use Rattle.cu_day.proofs.LeastChains.{least_chain}
use Rattle.cu_day.proofs.Whole.{end_sound, swept_down, swept_up}

module _ (h : HierarchyValue) (f : IsHierarchy h) (from to : ℕ) (from_there : from < h.network.nodes) (to_there : to < h.network.nodes) (up down : List ℕ)
    (ahead : IsAhead h from to up down) (by : List Run) (early : IsEarly by) (labels : List (Option (List Run)))
    (swept : HasSwept (InTime by up) (InTime by down) h from to labels) (runs : List Run) (there_ : slice_get labels to ≡ Some (Some runs)) (no_later : IsBehind runs by 1) where
  at_end : (t : ℕ) → label_at labels t to ≡ Some (arrival_value runs t)
  at_end t = ap (λ (o : Option (Option (List Run))). value_at o t) there_

  in_time : (t : ℕ) → t < day → arrival_value runs t ≤ arrival_value by t
  in_time t within = let less = no_later t within in omega (arith, less)

  least_at : (t : ℕ) → t < day → IsLeastChain h from to t (arrival_value runs t)
  least_at t within =
      let none = ahead.end in
      let soon = in_time t within in
      least_chain h from to t (InTime by up t) (InTime by down t) (in_time_counted h f from to to_there up down ahead by early t within)
      (λ x. x) (λ x. h.network.nodes - x) (label_at swept.ups t) (label_at labels t)
      (swept_up (InTime by up) (InTime by down) h from to labels swept t within)
      (swept_down (InTime by up) (InTime by down) h from to labels swept t within)
      (arrival_value runs t) (at_end t) (omega (arith, none, soon))

  pub led_found : IsDayFunction h from to (Some runs)
  led_found = (end_sound (InTime by up) (InTime by down) h from to labels swept runs there_, least_at)

  pub led_least : IsLeastWhereBuilt h from to (Some runs)
  led_least built u v at_from at_to t within =
      least_of_walks h built from to t (arrival_value runs t) u v at_from at_to from_there within (least_at t within)
      (no_walk_earlier h built from to t (arrival_value by t) (early t within) from_there to_there up down ahead (λ x. x) (λ x. h.network.nodes - x)
      (label_at swept.ups t) (label_at labels t)
      (swept_up (InTime by up) (InTime by down) h from to labels swept t within)
      (swept_down (InTime by up) (InTime by down) h from to labels swept t within)
      (arrival_value runs t) (at_end t) (in_time t within))
