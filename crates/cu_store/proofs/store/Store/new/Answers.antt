use Rattle.cu_store.specs.Pool.{rows_of}
use Rattle.cu_store.proofs.RowLaws.{blank_known, no_rows}
use Rattle.cu_store.proofs.store.Store.new.Goals as goal

pub returns-clause-unknown : goal.returns-clause-unknown
returns-clause-unknown c =
    let rows = c.in_ok-with_capacity.field-0.items in
    blank_known _ (rows_of c.args.lists rows) c.args.lists (no_rows c.args.lists rows c.in_ok-with_capacity.ensures.items)
