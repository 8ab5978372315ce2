-- The edges to the neighbours so far were added.
use Rattle.cu_edits.specs.Steps.Spreading.{Adds}
use Rattle.cu_edits.proofs.AddingEdges.{IsToFirst}
use Rattle.cu_edits.proofs.touching.add_above.Given as goal

abbrev pub invariant-loop-high : goal.invariant-loop-high
invariant-loop-high l = Adds l.graph.edges (IsToFirst l.graph.edges l.high-items l.ends.high l.high-index) l.fn.buckets l.buckets
