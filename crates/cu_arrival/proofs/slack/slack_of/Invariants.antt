use Rattle.std.proofs.Common.{◌-◌}
use Rattle.cu_model.specs.Days.{day}
use Rattle.cu_arrival.proofs.Slacks.{IsTrailing}
use Rattle.cu_arrival.proofs.slack.slack_of.Given as goal

abbrev pub invariant-day : goal.invariant-day
invariant-day l = IsTrailing l.limit_runs l.function_runs l.slack l.first l.second l.at

abbrev pub decreases-day : goal.decreases-day
decreases-day l = day - l.at
