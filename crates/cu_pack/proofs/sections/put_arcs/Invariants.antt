-- The first roads are put.
use Rattle.std.proofs.Common.{take, flat_map}
use Rattle.cu_pack.specs.Spelling.{arc_bytes}
use Rattle.cu_pack.proofs.sections.put_arcs.Given as goal

abbrev pub invariant-loop-arc : goal.invariant-loop-arc
invariant-loop-arc g l = g.T.Target.grows l.fn.bytes l.bytes (flat_map arc_bytes (take l.arc (g.R.Roads.network l.roads).arcs))
