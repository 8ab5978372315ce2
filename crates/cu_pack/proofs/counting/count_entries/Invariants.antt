-- The entries of the lists of the first edges are counted.
use Rattle.std.proofs.Common.{◌≡◌, ◌*◌, take}
use Rattle.cu_pack.specs.Spelling.{total}
use Rattle.cu_pack.proofs.counting.count_entries.Given as goal

abbrev pub invariant-loop-edge : goal.invariant-loop-edge
invariant-loop-edge l = l.count ≡ total (take (2 * l.edge) l.hierarchy.lists)
