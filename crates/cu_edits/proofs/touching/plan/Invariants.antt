-- The list has the edges that were taken out so far.
use Rattle.std.proofs.Common.{◌-◌, length}
use Rattle.cu_edits.proofs.TakingOut.{AreTaken}
use Rattle.cu_edits.proofs.touching.plan.Given as goal

abbrev pub invariant-edges : goal.invariant-edges
invariant-edges g l = AreTaken (g.W.Ways.hierarchy l.ways) l.edit l.buckets l.touched.items

abbrev pub decreases-edges : goal.decreases-edges
decreases-edges g l = length l.graph.edges - length l.touched.items
