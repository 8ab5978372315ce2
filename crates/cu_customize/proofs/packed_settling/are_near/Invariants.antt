use Rattle.std.proofs.Common.{take}
use Rattle.cu_model.specs.Networks.{NetworkValue}
use Rattle.cu_customize.specs.Steps.Gathering.{AreNear, HasTriangles}
use Rattle.cu_customize.proofs.packed_settling.are_near.Given as goal

abbrev pub invariant-loop-triangle : goal.invariant-loop-triangle
invariant-loop-triangle l = (g : NetworkValue) → HasTriangles g l.task → AreNear g l.task (take l.triangle-index l.task.triangles.now)
