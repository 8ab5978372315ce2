-- The last list in work was driven, and with it so many roads.
use Rattle.std.proofs.Common.{◌≡◌, ◌≤◌, ◌+◌, length}
use Rattle.cu_recall.specs.Spans.{Knows}
use Rattle.cu_recall.specs.Steps.InWork.{IsDone}
use Rattle.cu_recall.proofs.unpacking.resume.Given as goal

abbrev pub invariant-joins : goal.invariant-joins
invariant-joins l = record {
  within : l.depth ≤ length l.pending;
  same : l.pending ≡ l.fn.pending;
  total : l.total ≡ l.fn.spot.roads + l.fn.driven.roads;
  done : IsDone l.view l.fn.spot.whole l.pending l.depth l.total l.driven;
  knows : Knows l.view l.rows;
}

abbrev pub decreases-joins : goal.decreases-joins
decreases-joins l = l.depth
