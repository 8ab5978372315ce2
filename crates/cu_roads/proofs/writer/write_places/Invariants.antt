use Rattle.std.proofs.Common.{take}
use Rattle.cu_tables.specs.WrittenTexts.{HasRows}
use Rattle.cu_roads.specs.Written.{node_table}
use Rattle.cu_roads.proofs.writer.write_places.Given as goal

abbrev pub invariant-loop-number : goal.invariant-loop-number
invariant-loop-number l = HasRows l.writer 3 (node_table (take l.number l.places))
