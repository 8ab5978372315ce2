-- The legs went down so far, and the lower end of the list that is next fell.
use Rattle.std.proofs.Common.{◌≡◌, List}
use Rattle.cu_interval.specs.declared.shortcuts.Leg.{Leg}
use Rattle.cu_recall.specs.Spans.{Knows, low_of_list}
use Rattle.cu_recall.specs.Steps.Walks.{IsAt}
use Rattle.cu_recall.proofs.RoadByRoad.{WentDown}
use Rattle.cu_recall.proofs.walking.next_part.Given as goal

abbrev pub invariant-parts : goal.invariant-parts
invariant-parts l = record {
  second : l.spot.second ≡ l.fn.spot.second;
  knows : Knows l.ground.view.now l.rows;
  went : (leg : Leg) (legs : List Leg) → IsAt l.ground.view.now l.fn.waiting l.fn.spot leg legs → WentDown l.ground.view.now leg legs l.spot.second l.waiting l.spot;
}

abbrev pub decreases-parts : goal.decreases-parts
decreases-parts l = low_of_list l.ground.view.now l.spot.next.list
