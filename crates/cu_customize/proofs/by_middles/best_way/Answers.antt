use Rattle.std.proofs.Common.{◌≡◌, ◌<◌, ◌∙◌, ◌++◌, List, get_or, length, map, take, sym, subst, arith}
use Rattle.std.proofs.Math.Seq.{take-length}
use Rattle.cu_interval.specs.declared.ways.Way.{Way}
use Rattle.cu_interval.specs.declared.ways.Way.TheVariants.{Road, Via}
use Rattle.cu_customize.specs.Functions.{FunctionsState}
use Rattle.cu_customize.specs.Settling.{KnowsHalves}
use Rattle.cu_customize.specs.Steps.Best.{IsBestOf, IsWayFunction}
use Rattle.cu_customize.proofs.Loops.{via_taken, vias_before}
use Rattle.cu_customize.proofs.by_middles.best_way.Goals as goal

pub way_function-requires-clause-halves : goal.way_function-requires-clause-halves
way_function-requires-clause-halves g c =
    subst (λ (s : FunctionsState). KnowsHalves c.args.graph.now.edges s c.args.leg.from c.args.leg.to) (sym c.loop-middle.invariant.same) c.requires.halves

pub loop-middle-preserved : goal.loop-middle-preserved
loop-middle-preserved g c =
    let inside : c.loop-middle.middle-index < length c.args.middles.now = omega arith in
    let edges = c.args.graph.now.edges in
    let u = c.args.leg.from in
    let v = c.args.leg.to in
    let state : FunctionsState = g.F.Functions.state c.args.functions.now in
    let middle = get_or c.args.middles.now c.loop-middle.middle-index 0 in
    record {
      same = c.way_function.ensures.same ∙ c.loop-middle.invariant.same;
      some = c.in_ok-best.ensures.some;
      best = λ arcs roads.
          let taken = map Road arcs ++ map Via (take c.loop-middle.middle-index c.args.middles.now) in
          let function = subst (λ (s : FunctionsState). IsWayFunction edges s u v (Via middle) c.in_ok-function.function) c.loop-middle.invariant.same c.in_ok-function.ensures.function in
          subst (λ (ways : List Way). IsBestOf edges state u v ways c.in_ok-best.best) (via_taken arcs c.args.middles.now c.loop-middle.middle-index 0 inside)
          (c.in_ok-best.ensures.best edges state u v taken (c.loop-middle.invariant.best arcs roads)
          (vias_before arcs c.args.middles.now c.loop-middle.middle-index 0 c.requires.rising inside) function);
    }

pub returns-clause-best : goal.returns-clause-best
returns-clause-best g c arcs roads =
    let all : c.loop-middle.middle-index ≡ length c.args.middles.now = omega arith in
    let whole : take c.loop-middle.middle-index c.args.middles.now ≡ c.args.middles.now =
    subst (λ k. take k c.args.middles.now ≡ c.args.middles.now) (sym all) (take-length c.args.middles.now) in
    subst (λ (middles : List _). IsBestOf c.args.graph.now.edges (g.F.Functions.state c.args.functions.now) c.args.leg.from c.args.leg.to (map Road arcs ++ map Via middles) c.loop-middle.best) whole
    (c.loop-middle.invariant.best arcs roads)
