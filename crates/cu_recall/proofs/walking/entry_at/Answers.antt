use Rattle.std.proofs.Common.{Some, subst}
use Rattle.cu_recall.specs.declared.pending.Asked.{Asked}
use Rattle.cu_recall.specs.Steps.Looks.{IsMetAt}
use Rattle.cu_recall.specs.Steps.Walks.{next_asked}
use Rattle.cu_recall.proofs.RoadByRoad.{met_read}
use Rattle.cu_recall.proofs.walking.entry_at.Goals as goal

pub returns-in-Some-clause-met : goal.returns-in-Some-clause-met
returns-in-Some-clause-met c =
    met_read c.args.view.now (next_asked c.args.spot) c.args.spot.next.met c.requires.holds.0 (Some c.in-Some.met) c.in-Some.ensures.there c.in-Some.ensures.same

pub returns-clause-met : goal.returns-clause-met
returns-clause-met c = subst (λ (asked : Asked). IsMetAt c.args.view.now asked c.met_at.result) c.asked_next.ensures c.met_at.ensures.met
