use Rattle.std.proofs.lemmas.Result.{IfOk-weaker}
use Rattle.cu_tables.specs.Taking.{Ends}
use Rattle.cu_tables.proofs.ReadFacts.{whole_table}
use Rattle.cu_tables.proofs.rows.each_row.Goals as goal

pub returns : goal.returns
returns g c = IfOk-weaker c.take_rows.result _ _
    (λ answer h. whole_table (λ rows. Ends g.T.TakesRows.takes g.T.TakesRows.refuses c.args.taker.now rows c.take_rows.new.taker answer) _ c.args.text.now c.rows_of-rows.ensures h)
    c.take_rows.ensures
