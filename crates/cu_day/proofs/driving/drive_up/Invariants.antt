-- The calls so far lead up from the start to the rank.
use Rattle.std.proofs.Common.{◌≡◌, ◌<◌, ◌-◌}
use Rattle.std.specs.List.{Contains}
use Rattle.cu_elimtree.specs.SweepArcs.{ancestors_in}
use Rattle.cu_interval.specs.declared.ways.Dir.TheVariants.{Up}
use Rattle.cu_interval.specs.Hierarchies.{graph_of}
use Rattle.cu_day.specs.Steps.LedSteps.{AddsLegs}
use Rattle.cu_day.proofs.driving.drive_up.Given as goal

abbrev pub invariant-steps : goal.invariant-steps
invariant-steps g l =
    let h = g.F.DayFunctions.hierarchy l.fn.functions in
    let from = l.fn.start.rank in
    record {
      rank : l.spot.rank < l.fn.graph.ranks;
      above : Contains (ancestors_in (graph_of h) from) l.spot.rank;
      legs : AddsLegs h from Up from l.spot.rank (g.F.DayFunctions.calls l.fn.functions) (g.F.DayFunctions.calls l.functions);
      stays : g.F.DayFunctions.hierarchy l.functions ≡ h;
    }

abbrev pub decreases-steps : goal.decreases-steps
decreases-steps g l = l.fn.graph.ranks - l.spot.rank
