use Rattle.cu_interval.specs.Steps.ArcLists.{AreListed}
use Rattle.cu_interval.proofs.edge_arcs.listed.Given as goal

abbrev pub invariant-loop-arc : goal.invariant-loop-arc
invariant-loop-arc g l = AreListed (g.N.Roads.network l.roads) l.order l.graph.edges l.arc l.numbers.items l.arcs.items
