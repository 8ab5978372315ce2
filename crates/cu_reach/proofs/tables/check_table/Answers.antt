use Rattle.std.proofs.Common.{ap, arith, length, rules}
use Rattle.cu_model.specs.Queries.{fields_of_line}
use Rattle.cu_reach.proofs.FieldLaws.{few_fields}
use Rattle.cu_reach.proofs.TableLaws.{table_read}
use Rattle.cu_reach.proofs.tables.check_table.Goals as goal

pub scan_nodes-requires : goal.scan_nodes-requires
scan_nodes-requires c =
    let long = ap length c.in-Some.ensures in
    let few = few_fields c.args.line.now in
    record { few = omega (arith, long, few) }

pub returns : goal.returns
returns c =
    table_read c.args.nodes c.in-Some-value_within.sources (fields_of_line c.args.line.now) _ _ _ _ c.in-Some-scan_nodes.scan _ _ _
    c.in-Some.ensures (search rules) c.in-Some-parse_number.ensures c.in-Some-parse_number-2.ensures c.in-Some-scan_nodes.ensures c.in-Some-value_within.ensures
    c.table_asked.ensures
