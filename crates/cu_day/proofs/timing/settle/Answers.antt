use Rattle.std.proofs.Common.{refl, length}
use Rattle.std.proofs.lemmas.Option.{slice_get_read}
use Rattle.cu_day.proofs.Leaving.{slacks_settled}
use Rattle.cu_day.proofs.timing.settle.Goals as goal

pub returns-clause-slacks : goal.returns-clause-slacks
returns-clause-slacks c =
    let labels = c.args.reached.now.labels.items in
    let here = slice_get_read labels (length labels) c.args.rank c.index.result.now refl c.requires.rank c.index.ensures in
    slacks_settled c.args.by.now c.args.rank c.slack_at-slack.result labels c.index.result.now c.args.reached.now.slacks.items c.requires.place here
    c.slack_at-slack.ensures c.requires.slacks
