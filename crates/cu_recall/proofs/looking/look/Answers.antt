use Rattle.cu_recall.proofs.Entries.{met_parted}
use Rattle.cu_recall.proofs.looking.look.Goals as goal

pub returns-in-Halves-clause-finds : goal.returns-in-Halves-clause-finds
returns-in-Halves-clause-finds c =
    met_parted c.args.view.now c.args.asked c.met_from-met.result c.in-Halves.first c.in-Halves.second c.met_from-met.ensures.met c.in-Halves.is
