use Rattle.std.proofs.Common.{arith}
use Rattle.cu_customize.proofs.Places.{way_middle}
use Rattle.cu_customize.proofs.pulling.way_with.Goals as goal

pub returns : goal.returns
returns c = way_middle c.args.task.now.arcs.now c.args.task.now.triangles.now c.args.number _ (omega arith) c.requires
