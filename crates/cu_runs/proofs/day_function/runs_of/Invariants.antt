use Rattle.std.proofs.Common.{◌≡◌, take}
use Rattle.cu_runs.proofs.day_function.runs_of.Given as goal

abbrev pub invariant-loop-index : goal.invariant-loop-index
invariant-loop-index l = l.runs.items ≡ take l.index l.packed
