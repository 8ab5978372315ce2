-- Some list is next, and fewer roads were driven than there are nodes.
use Rattle.std.proofs.Common.{◌≡◌, ◌<◌, ◌-◌}
use Rattle.cu_interval.specs.Hierarchies.{IsHierarchy}
use Rattle.cu_recall.specs.Spans.{Knows}
use Rattle.cu_recall.specs.Steps.InWork.{IsSomewhere}
use Rattle.cu_recall.proofs.unpacking.unpack.Given as goal

abbrev pub invariant-parts : goal.invariant-parts
invariant-parts l = record {
  sound : IsHierarchy l.view;
  nodes : l.nodes ≡ l.view.network.nodes;
  somewhere : IsSomewhere l.view l.pending l.spot;
  whole : l.spot.whole ≡ l.fn.whole;
  few : l.spot.roads < l.nodes;
  knows : Knows l.view l.rows;
}

abbrev pub decreases-parts : goal.decreases-parts
decreases-parts l = l.nodes - l.spot.roads
