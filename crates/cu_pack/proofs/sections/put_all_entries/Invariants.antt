-- The lists of the first edges are put.
use Rattle.std.proofs.Common.{◌≡◌, ◌++◌, ◌*◌, take, flat_map}
use Rattle.cu_pack.specs.Spelling.{entry_bytes}
use Rattle.cu_pack.proofs.sections.put_all_entries.Given as goal

abbrev pub invariant-loop-edge : goal.invariant-loop-edge
invariant-loop-edge l = l.bytes.items ≡ l.fn.bytes.items ++ flat_map (flat_map entry_bytes) (take (2 * l.edge) l.hierarchy.lists)
