use Rattle.std.proofs.Common.{map, take}
use Rattle.cu_tables.specs.WrittenTexts.{HasRows}
use Rattle.cu_order.specs.Written.{node_row}
use Rattle.cu_order.proofs.writer.write_order.Given as goal

abbrev pub invariant-loop-rank : goal.invariant-loop-rank
invariant-loop-rank l = HasRows l.writer 1 (map node_row (take l.rank l.order.node_at))
