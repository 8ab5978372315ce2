-- Some list is next, and what is known stays so.
use Rattle.std.proofs.Common.{◌≡◌}
use Rattle.cu_recall.specs.Spans.{Knows, low_of_list}
use Rattle.cu_recall.specs.Steps.InWork.{IsSomewhere}
use Rattle.cu_recall.proofs.unpacking.go_down.Given as goal

abbrev pub invariant-parts : goal.invariant-parts
invariant-parts l = record {
  somewhere : IsSomewhere l.view l.pending l.spot;
  knows : Knows l.view l.rows;
  whole : l.spot.whole ≡ l.fn.spot.whole;
  roads : l.spot.roads ≡ l.fn.spot.roads;
}

abbrev pub decreases-parts : goal.decreases-parts
decreases-parts l = low_of_list l.view l.spot.next.list
