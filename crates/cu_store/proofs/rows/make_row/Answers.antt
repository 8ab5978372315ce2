use Rattle.std.proofs.Common.{arith, ap, ◌∙◌, ◌+◌}
use Rattle.cu_store.specs.Pool.{rows_of}
use Rattle.cu_store.proofs.RowLaws.{rows_more}
use Rattle.cu_store.proofs.rows.make_row.Goals as goal

pub returns-then-len-list-clause-same : goal.returns-then-len-list-clause-same
returns-then-len-list-clause-same c =
    ap (rows_of c.args.lists) c.write_rows.ensures.rows
    ∙ rows_more c.args.lists c.args.rows.now.items (c.args.list + 1) (omega (arith, c.if-len-list.true, c.len.ensures, c.args.rows.now.ok.0)) (omega (arith, c.requires.list))
