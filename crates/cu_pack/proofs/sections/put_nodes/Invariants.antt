-- The first nodes are put.
use Rattle.std.proofs.Common.{◌≡◌, ◌++◌, take, flat_map}
use Rattle.cu_pack.specs.Spelling.{short}
use Rattle.cu_pack.proofs.sections.put_nodes.Given as goal

abbrev pub invariant-loop-rank : goal.invariant-loop-rank
invariant-loop-rank l = l.bytes.items ≡ l.fn.bytes.items ++ flat_map short (take l.rank l.order.node_at)
