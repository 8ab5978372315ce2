use Rattle.std.proofs.Common.{◌-◌}
use Rattle.cu_model.specs.Days.{day}
use Rattle.cu_arrival.proofs.MinimumLaws.{IsLeastUntil}
use Rattle.cu_arrival.proofs.minimum.least.Given as goal

abbrev pub invariant-day : goal.invariant-day
invariant-day l = IsLeastUntil l.first_runs l.second_runs l.runs l.first_stretch l.second_stretch l.at

abbrev pub decreases-day : goal.decreases-day
decreases-day l = day - l.at
