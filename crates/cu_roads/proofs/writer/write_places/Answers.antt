use Rattle.std.proofs.Common.{take, subst, refl, arith}
use Rattle.cu_tables.specs.WrittenTexts.{HasRows}
use Rattle.cu_tables.proofs.WriteFacts.{adds_row}
use Rattle.cu_roads.specs.NetworkTexts.{node_header}
use Rattle.cu_roads.specs.Written.{written_place, node_table}
use Rattle.cu_roads.proofs.WrittenRows.{table_more}
use Rattle.cu_roads.proofs.writer.write_places.Goals as goal

pub loop-number-preserved : goal.loop-number-preserved
loop-number-preserved c =
    let i = c.loop-number.number in
    let places = c.args.places.now in
    subst (HasRows c.write_place.new.writer 3) (table_more node_header written_place places i _ (omega arith))
    (adds_row c.loop-number.writer c.write_place.new.writer 3 (node_table (take i places)) _ c.in_ok-write_place.ensures refl c.loop-number.invariant)
