use Rattle.std.proofs.Common.{take}
use Rattle.cu_customize.specs.Steps.Triangles.{AreTrianglesBy}
use Rattle.cu_customize.proofs.packed_settling.find_triangles.Given as goal

abbrev pub invariant-loop-middle : goal.invariant-loop-middle
invariant-loop-middle l = AreTrianglesBy l.graph.edges l.ends.low l.ends.high (take l.middle-index l.middle-items) l.triangles.items
