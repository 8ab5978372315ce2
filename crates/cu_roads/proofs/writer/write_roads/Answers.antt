use Rattle.std.proofs.Common.{take, subst, refl, arith}
use Rattle.cu_tables.specs.WrittenTexts.{HasRows}
use Rattle.cu_tables.proofs.WriteFacts.{adds_row}
use Rattle.cu_roads.specs.NetworkTexts.{arc_header}
use Rattle.cu_roads.specs.Written.{written_arc, arc_table}
use Rattle.cu_roads.proofs.WrittenRows.{table_more}
use Rattle.cu_roads.proofs.writer.write_roads.Goals as goal

pub loop-number-preserved : goal.loop-number-preserved
loop-number-preserved c =
    let i = c.loop-number.number in
    let roads = c.args.roads.now in
    subst (HasRows c.write_road.new.writer 4) (table_more arc_header written_arc roads i _ (omega arith))
    (adds_row c.loop-number.writer c.write_road.new.writer 4 (arc_table (take i roads)) _ c.in_ok-write_road.ensures refl c.loop-number.invariant)
