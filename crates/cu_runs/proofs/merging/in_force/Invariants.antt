use Rattle.std.proofs.Common.{◌≡◌, ◌≤◌, ◌-◌, Some, length}
use Rattle.std.specs.Prelude.{slice_get}
use Rattle.cu_arrival.specs.declared.runs.Run.{Run}
use Rattle.cu_runs.proofs.merging.in_force.Given as goal

abbrev pub invariant-loop-index : goal.invariant-loop-index
invariant-loop-index l = (run : Run) × (slice_get l.packed l.index ≡ Some run) × (run.from ≤ l.second)

abbrev pub decreases-loop-index : goal.decreases-loop-index
decreases-loop-index l = length l.packed - l.index
