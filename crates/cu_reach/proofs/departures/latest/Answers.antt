use Rattle.std.proofs.Common.{◌∙◌, arith, subst}
use Rattle.cu_interval.specs.Hierarchies.{HierarchyValue}
use Rattle.cu_reach.specs.Departures.{IsLatestWhereBuilt}
use Rattle.cu_reach.proofs.Queries.{one_query, queries_of, queries_then, queries_within}
use Rattle.cu_reach.proofs.SearchLaws.{late_departure, long_departure, no_departure, some_departure}
use Rattle.cu_reach.proofs.departures.latest.Goals as goal

pub returns-in-NoWalk-clause-told : goal.returns-in-NoWalk-clause-told
returns-in-NoWalk-clause-told g c =
    let h = g.R.Relaxer.hierarchy c.args.relaxer.now in
    queries_within h c.args.from c.args.to 1 20 _ _ (omega arith) (one_query h c.args.from c.args.to 0 _ _ c.query.ensures.told)

pub returns-in-Long-clause-told : goal.returns-in-Long-clause-told
returns-in-Long-clause-told g c =
    let h = g.R.Relaxer.hierarchy c.args.relaxer.now in
    queries_within h c.args.from c.args.to 1 20 _ _ (omega arith) (one_query h c.args.from c.args.to 0 _ _ c.query.ensures.told)

pub returns-then-arrival-by-clause-latest : goal.returns-then-arrival-by-clause-latest
returns-then-arrival-by-clause-latest g c =
    let least = rw c.in-Arrive.is at c.query.ensures.least in
    λ built u v start stop. (c.in-Arrive.arrival, least built u v start stop, c.if-arrival-by.true)

pub returns-then-arrival-by-clause-told : goal.returns-then-arrival-by-clause-told
returns-then-arrival-by-clause-told g c =
    let h = g.R.Relaxer.hierarchy c.args.relaxer.now in
    queries_within h c.args.from c.args.to 1 20 _ _ (omega arith) (one_query h c.args.from c.args.to 0 _ _ c.query.ensures.told)

pub returns-clause-latest : goal.returns-clause-latest
returns-clause-latest g c =
    subst (λ (h : HierarchyValue). IsLatestWhereBuilt h c.args.from c.args.to c.args.by c.search-departure.result) c.query.ensures.stays
    c.search-departure.ensures.latest

pub returns-clause-told : goal.returns-clause-told
returns-clause-told g c =
    let h = g.R.Relaxer.hierarchy c.args.relaxer.now in
    let first = one_query h c.args.from c.args.to 0 _ _ c.query.ensures.told in
    let more = queries_of h (g.R.Relaxer.hierarchy c.query.new.relaxer) c.args.from c.args.to 18 _ _ c.query.ensures.stays c.search-departure.ensures.told in
    let last = queries_of h (g.R.Relaxer.hierarchy c.search-departure.new.relaxer) c.args.from c.args.to 1 _ _
    (c.search-departure.ensures.stays ∙ c.query.ensures.stays) c.leave.ensures.told in
    queries_then h c.args.from c.args.to 19 1 _ _ _ (queries_then h c.args.from c.args.to 1 18 _ _ _ first more) last

pub returns-in-NoWalk-clause-search : goal.returns-in-NoWalk-clause-search
returns-in-NoWalk-clause-search g c =
    no_departure (g.R.Relaxer.hierarchy c.args.relaxer.now) c.args.from c.args.to c.args.by c.query.result c.query.ensures.found c.in-NoWalk.is

pub returns-in-Long-clause-search : goal.returns-in-Long-clause-search
returns-in-Long-clause-search g c =
    long_departure (g.R.Relaxer.hierarchy c.args.relaxer.now) c.args.from c.args.to c.args.by c.query.result c.query.ensures.found _ _ _ c.in-Long.is

pub returns-then-arrival-by-clause-search : goal.returns-then-arrival-by-clause-search
returns-then-arrival-by-clause-search g c =
    late_departure (g.R.Relaxer.hierarchy c.args.relaxer.now) c.args.from c.args.to c.args.by c.query.result c.query.ensures.found c.in-Arrive.arrival c.in-Arrive.is c.if-arrival-by.true

pub returns-clause-search : goal.returns-clause-search
returns-clause-search g c =
    some_departure (g.R.Relaxer.hierarchy c.args.relaxer.now) c.args.from c.args.to c.args.by c.query.result c.query.ensures.found (g.R.Relaxer.hierarchy c.query.new.relaxer)
    c.in-Arrive.arrival c.search-departure.result c.query.ensures.stays c.in-Arrive.is c.if-arrival-by.false c.search-departure.ensures.search
