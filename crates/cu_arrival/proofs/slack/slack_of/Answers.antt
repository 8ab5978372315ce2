use Rattle.std.proofs.Common.{arith, rules}
use Rattle.cu_arrival.proofs.Slacks.{trailing_step}
use Rattle.cu_arrival.proofs.slack.slack_of.Goals as goal

pub day-preserved : goal.day-preserved
day-preserved c =
    trailing_step c.runs-limit_runs.result.now c.runs-function_runs.result.now c.day.slack c.slack_within.result c.max-slack.result
    c.day.first c.day.second c.reach-first.result c.reach-second.result c.day.at c.min-end.result
    (search rules) (search rules) c.day.invariant
    c.reach-first.ensures.stretch c.reach-first.ensures.holds (c.reach-first.ensures.day (omega arith))
    c.reach-second.ensures.stretch c.reach-second.ensures.holds c.min-end.ensures c.max-slack.ensures c.slack_within.ensures
