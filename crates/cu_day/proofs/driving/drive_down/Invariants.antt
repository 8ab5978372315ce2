-- The calls so far lead down from the top to the rank.
use Rattle.std.proofs.Common.{◌≡◌, ◌≤◌, ◌<◌, length}
use Rattle.cu_interval.specs.declared.ways.Dir.TheVariants.{Down}
use Rattle.cu_day.specs.Steps.LedSteps.{AddsLegs}
use Rattle.cu_day.proofs.driving.drive_down.Given as goal

abbrev pub invariant-steps : goal.invariant-steps
invariant-steps g l =
    let h = g.F.DayFunctions.hierarchy l.fn.functions in
    record {
      rank : l.spot.rank < l.fn.graph.ranks;
      count : l.count ≤ length l.fn.downs.path.now;
      legs : AddsLegs h l.fn.downs.to Down l.fn.top.rank l.spot.rank (g.F.DayFunctions.calls l.fn.functions) (g.F.DayFunctions.calls l.functions);
      stays : g.F.DayFunctions.hierarchy l.functions ≡ h;
    }

abbrev pub decreases-steps : goal.decreases-steps
decreases-steps g l = l.spot.rank
