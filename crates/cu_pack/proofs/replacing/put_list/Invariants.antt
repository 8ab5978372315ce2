-- The first entries are put.
use Rattle.std.proofs.Common.{take, flat_map}
use Rattle.cu_pack.specs.Spelling.{entry_bytes}
use Rattle.cu_pack.proofs.replacing.put_list.Given as goal

abbrev pub invariant-loop-entry : goal.invariant-loop-entry
invariant-loop-entry g l = g.T.Target.grows l.fn.bytes l.bytes (flat_map entry_bytes (take l.entry-index l.list))
