-- The first bounds are put.
use Rattle.std.proofs.Common.{take, flat_map}
use Rattle.cu_pack.specs.Spelling.{long}
use Rattle.cu_pack.proofs.bounding.put_bounds.Given as goal

abbrev pub invariant-loop-bound : goal.invariant-loop-bound
invariant-loop-bound g l = g.T.Target.grows l.fn.bytes l.bytes (flat_map long (take l.bound-index l.bounds))
