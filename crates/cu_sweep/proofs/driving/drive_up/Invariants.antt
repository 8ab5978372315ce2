-- The calls so far lead up from the start to the rank.
use Rattle.std.proofs.Common.{◌≡◌, ◌<◌, ◌-◌}
use Rattle.std.specs.List.{Contains}
use Rattle.cu_elimtree.specs.SweepArcs.{ancestors_in}
use Rattle.cu_interval.specs.declared.ways.Dir.TheVariants.{Up}
use Rattle.cu_interval.specs.Hierarchies.{graph_of}
use Rattle.cu_sweep.specs.Steps.Driving.{AddsLegs}
use Rattle.cu_sweep.proofs.driving.drive_up.Given as goal

abbrev pub invariant-steps : goal.invariant-steps
invariant-steps g l =
    let h = g.R.Relaxer.hierarchy l.fn.relaxer in
    let from = l.fn.start.rank in
    record {
      rank : l.rank < l.fn.graph.ranks;
      above : Contains (ancestors_in (graph_of h) from) l.rank;
      legs : AddsLegs h from Up from l.rank (g.R.Relaxer.calls l.fn.relaxer) (g.R.Relaxer.calls l.relaxer);
      stays : g.R.Relaxer.hierarchy l.relaxer ≡ h;
    }

abbrev pub decreases-steps : goal.decreases-steps
decreases-steps g l = l.fn.graph.ranks - l.rank
