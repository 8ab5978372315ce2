-- The starts of the lists before this one are put.
use Rattle.std.proofs.Common.{flat_map}
use Rattle.cu_pack.specs.Spelling.{long}
use Rattle.cu_pack.specs.Steps.Starts.{starts_between}
use Rattle.cu_pack.proofs.replacing.put_moved_starts.Given as goal

abbrev pub invariant-loop-list : goal.invariant-loop-list
invariant-loop-list g l = g.T.Target.grows l.fn.bytes l.bytes (flat_map long (starts_between l.view.lists l.first l.list l.start))
