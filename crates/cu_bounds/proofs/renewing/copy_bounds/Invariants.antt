use Rattle.std.proofs.Common.{◌*◌}
use Rattle.cu_bounds.specs.Steps.InTurn.{AreFirstBounds}
use Rattle.cu_bounds.proofs.renewing.copy_bounds.Given as goal

abbrev pub invariant-loop-edge : goal.invariant-loop-edge
invariant-loop-edge g l = AreFirstBounds (g.W.Ways.hierarchy l.ways) l.bounds.items (2 * l.edge)
