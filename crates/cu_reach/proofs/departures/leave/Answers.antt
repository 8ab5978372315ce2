use Rattle.cu_reach.proofs.Queries.{one_query}
use Rattle.cu_reach.proofs.departures.leave.Goals as goal

pub returns-in-Depart-clause-told : goal.returns-in-Depart-clause-told
returns-in-Depart-clause-told g c =
    one_query (g.R.Relaxer.hierarchy c.args.relaxer.now) c.args.journey.from c.args.journey.to c.in-Depart.second _ _ c.query.ensures.told
