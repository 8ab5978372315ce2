use Rattle.std.proofs.Common.{◌≡◌, ◌≢◌, ◌++◌, ℕ, List, [], map, take}
use Rattle.std.specs.Prelude.{IfSome}
use Rattle.cu_interval.specs.declared.ways.Way.TheVariants.{Road, Via}
use Rattle.cu_customize.specs.Steps.Best.{IsBestOf}
use Rattle.cu_customize.proofs.by_middles.best_way.Given as goal

abbrev pub invariant-loop-middle : goal.invariant-loop-middle
invariant-loop-middle g l = record {
  same : g.F.Functions.state l.functions ≡ g.F.Functions.state l.fn.functions;
  some : IfSome l.best.function (λ _. l.best.ways ≢ []);
  best : (arcs : List ℕ) → IsBestOf l.graph.edges (g.F.Functions.state l.fn.functions) l.leg.from l.leg.to (map Road arcs) l.fn.roads
      → IsBestOf l.graph.edges (g.F.Functions.state l.fn.functions) l.leg.from l.leg.to (map Road arcs ++ map Via (take l.middle-index l.middles)) l.best;
}
