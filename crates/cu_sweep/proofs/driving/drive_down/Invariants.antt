-- The calls so far lead down from the top to the rank.
use Rattle.std.proofs.Common.{◌≡◌, ◌≤◌, ◌<◌, length}
use Rattle.cu_interval.specs.declared.ways.Dir.TheVariants.{Down}
use Rattle.cu_sweep.specs.Steps.Driving.{AddsLegs}
use Rattle.cu_sweep.proofs.driving.drive_down.Given as goal

abbrev pub invariant-steps : goal.invariant-steps
invariant-steps g l =
    let h = g.R.Relaxer.hierarchy l.fn.relaxer in
    record {
      rank : l.rank < l.fn.graph.ranks;
      count : l.count ≤ length l.path;
      legs : AddsLegs h l.fn.to Down l.fn.top.rank l.rank (g.R.Relaxer.calls l.fn.relaxer) (g.R.Relaxer.calls l.relaxer);
      stays : g.R.Relaxer.hierarchy l.relaxer ≡ h;
    }

abbrev pub decreases-steps : goal.decreases-steps
decreases-steps g l = l.rank
