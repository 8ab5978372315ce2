-- The first entries are put.
use Rattle.std.proofs.Common.{◌≡◌, ◌++◌, take, flat_map}
use Rattle.cu_interval.specs.Hierarchies.{list_of}
use Rattle.cu_pack.specs.Spelling.{entry_bytes}
use Rattle.cu_pack.proofs.sections.put_entries.Given as goal

abbrev pub invariant-loop-index : goal.invariant-loop-index
invariant-loop-index l = l.bytes.items ≡ l.fn.bytes.items ++ flat_map entry_bytes (take l.index (list_of l.hierarchy l.edge l.dir))
