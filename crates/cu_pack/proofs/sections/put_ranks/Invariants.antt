-- The first ranks are put.
use Rattle.std.proofs.Common.{◌≡◌, ◌++◌, take, flat_map}
use Rattle.cu_pack.specs.Spelling.{short}
use Rattle.cu_pack.proofs.sections.put_ranks.Given as goal

abbrev pub invariant-loop-node : goal.invariant-loop-node
invariant-loop-node l = l.bytes.items ≡ l.fn.bytes.items ++ flat_map short (take l.node l.order.rank_of)
