use Rattle.std.proofs.Common.{Some}
use Rattle.cu_recall.proofs.RoadByRoad.{met_read}
use Rattle.cu_recall.proofs.looking.met_from.Goals as goal

pub returns-in-Some-clause-met : goal.returns-in-Some-clause-met
returns-in-Some-clause-met c =
    met_read c.args.view.now c.args.asked c.args.kept c.requires.kept (Some c.in-Some.met) c.in-Some.ensures.there c.in-Some.ensures.same
