use Rattle.std.proofs.Common.{◌≡◌, ◌<◌, ◌∙◌, ◌++◌, ◌∷◌, [], refl, List, get_or, length, map, take, sym, subst, arith}
use Rattle.std.proofs.Math.Seq.{take-length}
use Rattle.cu_interval.specs.declared.ways.Way.{Way}
use Rattle.cu_interval.specs.declared.ways.Way.TheVariants.{Road}
use Rattle.cu_customize.specs.Functions.{FunctionsState}
use Rattle.cu_customize.specs.Steps.Best.{IsBestOf}
use Rattle.cu_customize.proofs.Loops.{map_taken, roads_before}
use Rattle.cu_customize.proofs.settling.best_road.Goals as goal

pub with_road-requires-clause-arc : goal.with_road-requires-clause-arc
with_road-requires-clause-arc g c = subst (λ (s : FunctionsState). get_or c.args.arcs.now c.loop-arc.arc-index 0 < s.arcs) (sym c.loop-arc.invariant.same)
    (c.requires.arcs c.loop-arc.arc-index 0 (omega arith))

pub loop-arc-preserved : goal.loop-arc-preserved
loop-arc-preserved g c =
    let inside : c.loop-arc.arc-index < length c.args.arcs.now = omega arith in
    record {
      same = c.with_road.ensures.same ∙ c.loop-arc.invariant.same;
      some = c.in_ok-best.ensures.some;
      best = λ edges u v.
          let taken = map Road (take c.loop-arc.arc-index c.args.arcs.now) in
          let old = subst (λ (s : FunctionsState). IsBestOf edges s u v taken c.loop-arc.best) (sym c.loop-arc.invariant.same) (c.loop-arc.invariant.best edges u v) in
          let new = c.in_ok-best.ensures.best edges u v taken old (roads_before c.args.arcs.now c.loop-arc.arc-index 0 c.requires.rising inside) in
          let here = subst (λ (s : FunctionsState). IsBestOf edges s u v (taken ++ Road (get_or c.args.arcs.now c.loop-arc.arc-index 0) ∷ []) c.in_ok-best.best) c.loop-arc.invariant.same new in
          subst (λ (ways : List Way). IsBestOf edges (g.F.Functions.state c.args.functions.now) u v ways c.in_ok-best.best) (map_taken Road c.args.arcs.now c.loop-arc.arc-index 0 inside) here;
    }

pub returns-clause-best : goal.returns-clause-best
returns-clause-best g c edges u v =
    let all : c.loop-arc.arc-index ≡ length c.args.arcs.now = omega arith in
    let whole : take c.loop-arc.arc-index c.args.arcs.now ≡ c.args.arcs.now = subst (λ k. take k c.args.arcs.now ≡ c.args.arcs.now) (sym all) (take-length c.args.arcs.now) in
    subst (λ (arcs : List _). IsBestOf edges (g.F.Functions.state c.args.functions.now) u v (map Road arcs) c.loop-arc.best) whole (c.loop-arc.invariant.best edges u v)

pub loop-arc-init : goal.loop-arc-init
loop-arc-init g c = record {
  same = refl;
  some = c.no_ways-best.ensures.some;
  best = λ edges u v. c.no_ways-best.ensures.best edges (g.F.Functions.state c.args.functions.now) u v;
}
