use Rattle.std.proofs.Common.{◌+◌, ◌-◌}
use Rattle.cu_arrival.specs.Steps.Stretches.{IsStretch}
use Rattle.cu_arrival.proofs.stretches.reach.Given as goal

abbrev pub invariant-loop-stretch : goal.invariant-loop-stretch
invariant-loop-stretch l = IsStretch l.runs l.stretch l.second

abbrev pub decreases-loop-stretch : goal.decreases-loop-stretch
decreases-loop-stretch l = l.second + 1 - l.stretch.end
