use Rattle.std.proofs.Common.{◌+◌, ◌-◌}
use Rattle.cu_runs.specs.Steps.Linking.{IsReached}
use Rattle.cu_runs.proofs.linking.reach.Given as goal

abbrev pub invariant-loop-place : goal.invariant-loop-place
invariant-loop-place l = IsReached l.second l.place l.time

abbrev pub decreases-loop-place : goal.decreases-loop-place
decreases-loop-place l = l.time + 1 - l.place.end
