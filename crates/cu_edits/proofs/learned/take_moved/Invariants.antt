-- The lists of the edges so far are taken.
use Rattle.cu_unpack.specs.RebuiltRuns.{IsSized}
use Rattle.cu_edits.specs.Steps.Taking.{HasTaken}
use Rattle.cu_edits.proofs.learned.take_moved.Given as goal

abbrev pub invariant-loop-edge : goal.invariant-loop-edge
invariant-loop-edge l = record {
  taken : HasTaken l.moved l.fn.functions l.functions l.edge;
  size : IsSized l.edges l.functions;
}
