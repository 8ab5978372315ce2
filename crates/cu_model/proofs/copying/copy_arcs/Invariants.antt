use Rattle.std.proofs.Common.{◌≡◌, take}
use Rattle.cu_model.proofs.copying.copy_arcs.Given as goal

abbrev pub invariant-loop-arc : goal.invariant-loop-arc
invariant-loop-arc g l = l.arcs.items ≡ take l.arc (g.N.Roads.network l.roads).arcs
