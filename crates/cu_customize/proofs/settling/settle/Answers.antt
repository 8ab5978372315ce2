use Rattle.std.proofs.Common.{◌≡◌, ◌≤◌, ◌<◌, ◌++◌, ◌∙◌, ℕ, List, Some, sym, subst, map}
use Rattle.cu_chordal.specs.declared.graph.Ends.{Ends}
use Rattle.cu_interval.specs.declared.ways.Way.TheVariants.{Road, Via}
use Rattle.cu_interval.specs.Hierarchies.{end_of, start_of}
use Rattle.cu_customize.specs.Functions.{FunctionsState}
use Rattle.cu_customize.specs.Settling.{IsSettledList, IsValueOf, KnowsHalves}
use Rattle.cu_customize.specs.Steps.Best.{IsBestOf}
use Rattle.cu_customize.proofs.Loops.{middles_below}
use Rattle.cu_customize.proofs.Settles.{built_at, leads_over, settled_at}
use Rattle.cu_customize.proofs.settling.settle.Goals as goal

pub best_road-requires-clause-rising : goal.best_road-requires-clause-rising
best_road-requires-clause-rising g c = c.arcs.ensures.rising

pub down-requires : goal.down-requires
down-requires g c =
    let over = leads_over c.args.graph.now c.ends-ends.ensures.sound c.args.edge c.ends-ends.result c.args.dir c.leg_of-leg.result.from c.leg_of-leg.result.to
    c.ends-ends.ensures.there c.leg_of-leg.ensures.from c.leg_of-leg.ensures.to in
    let low = over.from in
    let inside = over.start_in in
    omega (Rattle.std.proofs.Common.arith, low, inside)

pub best_way-requires-clause-ranks : goal.best_way-requires-clause-ranks
best_way-requires-clause-ranks g c =
    let over = leads_over c.args.graph.now c.ends-ends.ensures.sound c.args.edge c.ends-ends.result c.args.dir c.leg_of-leg.result.from c.leg_of-leg.result.to
    c.ends-ends.ensures.there c.leg_of-leg.ensures.from c.leg_of-leg.ensures.to in
    (over.start_in, over.end_in)

pub best_way-requires-clause-below : goal.best_way-requires-clause-below
best_way-requires-clause-below g c =
    let over = leads_over c.args.graph.now c.ends-ends.ensures.sound c.args.edge c.ends-ends.result c.args.dir c.leg_of-leg.result.from c.leg_of-leg.result.to
    c.ends-ends.ensures.there c.leg_of-leg.ensures.from c.leg_of-leg.ensures.to in
    middles_below c.args.graph.now c.ends-ends.ensures.sound c.leg_of-leg.result.from c.leg_of-leg.result.to c.ends-ends.result.low c.down.result.now over.from
    over.to (λ x held. (c.down.ensures.members x).0 held)

pub best_way-requires-clause-halves : goal.best_way-requires-clause-halves
best_way-requires-clause-halves g c =
    let here = c.requires.halves c.ends-ends.result c.ends-ends.ensures.there in
    let from = subst (λ (x : ℕ). KnowsHalves c.args.graph.now.edges (g.F.Functions.state c.args.functions.now) x (end_of c.ends-ends.result c.args.dir)) (sym c.leg_of-leg.ensures.from) here in
    let to = subst (λ (y : ℕ). KnowsHalves c.args.graph.now.edges (g.F.Functions.state c.args.functions.now) c.leg_of-leg.result.from y) (sym c.leg_of-leg.ensures.to) from in
    subst (λ (s : FunctionsState). KnowsHalves c.args.graph.now.edges s c.leg_of-leg.result.from c.leg_of-leg.result.to) (sym c.best_road.ensures.same) to

pub returns-clause-ways : goal.returns-clause-ways
returns-clause-ways g c ends list at listed =
    let edges : List Ends = c.args.graph.now.edges in
    let state : FunctionsState = g.F.Functions.state c.args.functions.now in
    let u = c.leg_of-leg.result.from in
    let v = c.leg_of-leg.result.to in
    let arcs : List ℕ = c.arcs.result.now in
    let roads = subst (λ (s : FunctionsState). IsBestOf edges s u v (map Road arcs) c.in_ok-roads.roads) (sym c.best_road.ensures.same) (c.in_ok-roads.ensures.best edges u v) in
    let best = subst (λ (s : FunctionsState). IsBestOf edges s u v (map Road arcs ++ map Via c.down.result.now) c.in_ok-best.best) c.best_road.ensures.same (c.in_ok-best.ensures.best arcs roads) in
    let settled =
    settled_at c.args.graph.now c.ends-ends.ensures.sound c.args.edge c.ends-ends.result c.args.dir u v arcs c.down.result.now state c.in_ok-best.best
    c.ends-ends.ensures.there c.leg_of-leg.ensures.from
    c.leg_of-leg.ensures.to c.down.ensures.members best in
    let same : c.ends-ends.result ≡ ends = cc (c.ends-ends.ensures.there, at) in
    let same_list : arcs ≡ list = cc (c.arcs.ensures.there, listed) in
    subst (λ (e : Ends). IsSettledList edges list state (start_of e c.args.dir) (end_of e c.args.dir) c.in_ok-best.best.ways) same
    (subst (λ (l : List ℕ). IsSettledList edges l state (start_of c.ends-ends.result c.args.dir) (end_of c.ends-ends.result c.args.dir) c.in_ok-best.best.ways) same_list settled.0)

pub returns-clause-function : goal.returns-clause-function
returns-clause-function g c ends at =
    let edges : List Ends = c.args.graph.now.edges in
    let state : FunctionsState = g.F.Functions.state c.args.functions.now in
    let u = c.leg_of-leg.result.from in
    let v = c.leg_of-leg.result.to in
    let arcs : List ℕ = c.arcs.result.now in
    let roads = subst (λ (s : FunctionsState). IsBestOf edges s u v (map Road arcs) c.in_ok-roads.roads) (sym c.best_road.ensures.same) (c.in_ok-roads.ensures.best edges u v) in
    let best = subst (λ (s : FunctionsState). IsBestOf edges s u v (map Road arcs ++ map Via c.down.result.now) c.in_ok-best.best) c.best_road.ensures.same (c.in_ok-best.ensures.best arcs roads) in
    let settled =
    settled_at c.args.graph.now c.ends-ends.ensures.sound c.args.edge c.ends-ends.result c.args.dir u v arcs c.down.result.now state c.in_ok-best.best
    c.ends-ends.ensures.there c.leg_of-leg.ensures.from
    c.leg_of-leg.ensures.to c.down.ensures.members best in
    let same : c.ends-ends.result ≡ ends = cc (c.ends-ends.ensures.there, at) in
    subst (λ (e : Ends). IsValueOf edges state (start_of e c.args.dir) (end_of e c.args.dir) c.in_ok-best.best.ways c.in_ok-best.best.function) same settled.1

pub returns-clause-built : goal.returns-clause-built
returns-clause-built g c net o ends at n k closed are functions =
    built_at net o c.args.graph.now c.args.edge ends c.args.dir c.args.arcs.now c.arcs.result.now (g.F.Functions.state c.args.functions.now)
    c.in_ok-best.best.ways n k closed are functions at c.arcs.ensures.there
    (c.requires.halves ends at) (returns-clause-ways g c ends c.arcs.result.now at c.arcs.ensures.there)
