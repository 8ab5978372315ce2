-- What is in time for the end: at the start of an arc what is in time at its end.
use Rattle.std.proofs.Common.{◌≤◌, ◌<◌, ◌+◌, ℕ, List, [], ◌∷◌, sym, subst, arith}
use Rattle.std.specs.List.{Contains}
use Rattle.cu_model.specs.Days.{day}
use Rattle.cu_arrival.specs.declared.runs.Run.{Run}
use Rattle.cu_elimtree.specs.SweepArcs.{ancestors_in}
use Rattle.cu_interval.specs.declared.ways.Dir.TheVariants.{Up, Down}
use Rattle.cu_interval.specs.Hierarchies.{HierarchyValue, IsHierarchy, graph_of}
use Rattle.cu_interval.specs.LeastBounds.{bound_from}
use Rattle.cu_sweep.specs.Outlooks.{IsAhead, ahead_at}
use Rattle.cu_sweep.proofs.Ancestry.{ancestors_upwards, own_ancestor}
use Rattle.cu_day.specs.DayChains.{GoesDown, GoesUp, Passes}
use Rattle.cu_day.specs.Steps.InTime.{InTime, IsEarly}
use Rattle.cu_day.proofs.Bounded.{edge_bound, edge_number, list_takes}
use Rattle.cu_day.proofs.LeastChains.{AreCounted}

module _ (h : HierarchyValue) (f : IsHierarchy h) (from to : ℕ) (to_there : to < h.network.nodes) (up down : List ℕ) (ahead : IsAhead h from to up down) where
  -- what is still to go falls by no more than the least bound of an arc
  pub climbs : (x y : ℕ) → GoesUp h from x y → ahead_at up x ≤ bound_from h x y + ahead_at up y
  climbs x y goes =
      let (edge, number, at) = edge_number h f x y goes.0.1 in
      let same = edge_bound h f edge Up (record { low = x; high = y }) at in
      let less = ahead.climb x y edge goes.0.0 number in
      omega (arith, same, less)

  pub falls : (x y : ℕ) → GoesDown h to x y → ahead_at down x ≤ bound_from h x y + ahead_at down y
  falls x y goes =
      let (edge, number, at) = edge_number h f y x goes.0.1 in
      let same = edge_bound h f edge Down (record { low = y; high = x }) at in
      let less = ahead.fall y x edge goes.0.0 number in
      omega (arith, same, less)

  -- a chain down to the end begins at an ancestor of it
  top_ancestor : (x : ℕ) (downs : List ℕ) → Passes (GoesDown h to) x downs to → Contains (ancestors_in (graph_of h) to) x
  top_ancestor x [] path = subst (Contains (ancestors_in (graph_of h) to)) (sym path) (own_ancestor (graph_of h) to to_there)
  top_ancestor x (z ∷ downs) path = ancestors_upwards (graph_of h) f.graph to z x path.0.0.0 path.0.0.1

  pub in_time_counted : (by : List Run) → IsEarly by → (t : ℕ) → t < day → AreCounted h from to (InTime by up t) (InTime by down t)
  in_time_counted by early t within = record {
    sooner = λ s r le counts. omega (arith, le, counts);
    back_up = λ x y s goes counts.
        let takes = list_takes h f x y s goes.1 in
        let less = climbs x y goes in
        let soon = early t within in
        omega (arith, takes, less, soon, counts);
    back_down = λ x y s goes counts.
        let takes = list_takes h f x y s goes.1 in
        let less = falls x y goes in
        let soon = early t within in
        omega (arith, takes, less, soon, counts);
    turn = λ x s downs path counts. let less = ahead.turn x (top_ancestor x downs path) in omega (arith, less, counts);
  }
