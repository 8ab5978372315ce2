use Rattle.std.proofs.Common.{◌∙◌, List, ap}
use Rattle.cu_store.specs.declared.rows.Row.{Row}
use Rattle.cu_store.specs.declared.rows.Row.TheVariants as row
use Rattle.cu_store.specs.Pool.{rows_of}
use Rattle.cu_store.proofs.RowLaws.{plain_view, rows_set, view_of}
use Rattle.cu_store.proofs.store.Store.put_empty.Goals as goal

pub returns : goal.returns
returns c =
    let inside = c.self.inside in
    let pool = inside.pool.items in
    let rows = c.make_row.new.rows.items in
    ap (λ (rs : List Row). view_of pool rs inside.room) (rows_set inside.lists rows c.args.list row.Empty c.make_row.ensures.there)
    ∙ plain_view pool (rows_of inside.lists rows) inside.room c.args.list row.Empty c.args.self.now
    (ap (λ (rs : List Row). view_of pool rs inside.room) c.make_row.ensures.same ∙ c.self.view_is)
