use Rattle.std.proofs.Common.{◌≡◌, ◌≢◌, ℕ, List, [], map, take}
use Rattle.std.specs.Prelude.{IfSome}
use Rattle.cu_chordal.specs.declared.graph.Ends.{Ends}
use Rattle.cu_interval.specs.declared.ways.Way.TheVariants.{Road}
use Rattle.cu_customize.specs.Steps.Best.{IsBestOf}
use Rattle.cu_customize.proofs.settling.best_road.Given as goal

abbrev pub invariant-loop-arc : goal.invariant-loop-arc
invariant-loop-arc g l = record {
  same : g.F.Functions.state l.functions ≡ g.F.Functions.state l.fn.functions;
  some : IfSome l.best.function (λ _. l.best.ways ≢ []);
  best : (edges : List Ends) (u v : ℕ) → IsBestOf edges (g.F.Functions.state l.fn.functions) u v (map Road (take l.arc-index l.arcs)) l.best;
}
