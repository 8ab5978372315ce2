use Rattle.std.proofs.Common.{◌≡◌, take}
use Rattle.cu_arrival.proofs.runs.Arrival.from_runs.Given as goal

abbrev pub invariant-loop-run : goal.invariant-loop-run
invariant-loop-run l = l.list ≡ take l.run-index l.runs
