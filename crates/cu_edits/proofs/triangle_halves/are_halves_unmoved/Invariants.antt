-- No half by the triangles so far was moved.
use Rattle.std.proofs.Common.{take}
use Rattle.std.specs.Prelude.{All}
use Rattle.cu_edits.specs.Steps.Moving.{IsUnmoved}
use Rattle.cu_edits.specs.Steps.Triangles.{HalvesByAre}
use Rattle.cu_edits.proofs.triangle_halves.are_halves_unmoved.Given as goal

abbrev pub invariant-loop-triangle : goal.invariant-loop-triangle
invariant-loop-triangle l = All (HalvesByAre (IsUnmoved l.moved) l.dir) (take l.triangle-index l.triangles)
