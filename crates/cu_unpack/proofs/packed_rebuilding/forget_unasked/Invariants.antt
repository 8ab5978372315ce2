use Rattle.cu_unpack.specs.RebuiltRuns.{AreSpared}
use Rattle.cu_unpack.proofs.packed_rebuilding.forget_unasked.Given as goal

abbrev pub invariant-loop-number : goal.invariant-loop-number
invariant-loop-number l = AreSpared l.fn.table l.table
