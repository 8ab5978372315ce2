-- The edges of the roads so far were added.
use Rattle.cu_edits.specs.Steps.Spreading.{Adds, IsOfProfile}
use Rattle.cu_edits.proofs.touching.add_driven_by.Given as goal

abbrev pub invariant-loop-arc : goal.invariant-loop-arc
invariant-loop-arc g l = Adds l.graph.edges (IsOfProfile (g.W.Ways.hierarchy l.ways) l.profile l.arc) l.fn.buckets l.buckets
