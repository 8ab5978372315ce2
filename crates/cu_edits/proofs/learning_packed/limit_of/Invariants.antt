-- The least that some of the triangles so far is known to take at most.
use Rattle.cu_edits.specs.Steps.Triangles.{IsLimit}
use Rattle.cu_edits.proofs.learning_packed.limit_of.Given as goal

abbrev pub invariant-loop-triangle : goal.invariant-loop-triangle
invariant-loop-triangle l = IsLimit l.functions l.dir l.triangles l.limit
