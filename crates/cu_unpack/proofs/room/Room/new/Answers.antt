use Rattle.cu_unpack.proofs.PackedWays.{stays}
use Rattle.cu_unpack.proofs.room.Room.new.Goals as goal

pub invariant_of-result : goal.invariant_of-result
invariant_of-result c =
    stays c.of.result.rule c.in_ok-function_of_run.field-0.items c.of.ensures.rule c.in_ok-function_of_run.ensures.function c.in_ok-function_of_run.ensures.value
