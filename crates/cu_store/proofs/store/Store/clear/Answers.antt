use Rattle.cu_store.specs.Pool.{rows_of}
use Rattle.cu_store.proofs.RowLaws.{blank_known, no_rows}
use Rattle.cu_store.proofs.store.Store.clear.Goals as goal

pub returns-clause-unknown : goal.returns-clause-unknown
returns-clause-unknown c =
    let lists = c.self.inside.lists in
    let rows = c.clear.new.self.items in
    blank_known c.clear-2.new.self.items (rows_of lists rows) lists (no_rows lists rows c.clear.ensures.items)
