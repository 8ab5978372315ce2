use Rattle.std.proofs.Common.{arith}
use Rattle.cu_arrival.proofs.Slacks.{behind_between}
use Rattle.cu_arrival.proofs.slack.slack_within.Goals as goal

pub returns : goal.returns
returns c = λ t le lt.
    let first = c.behind.ensures in
    let last = c.behind-2.ensures in
    let most = c.max.ensures in
    let between = behind_between c.args.first c.args.second c.args.at c.args.end t le lt in
    omega (arith, first, last, most, between)
