use Rattle.std.proofs.Common.{arith, ◌≤◌, ◌<◌, ◌∙◌, List, ap, length, sym}
use Rattle.cu_store.specs.declared.rows.Row.{Row}
use Rattle.cu_store.specs.declared.rows.Row.TheVariants as row
use Rattle.cu_store.specs.Pool.{rows_of}
use Rattle.cu_store.proofs.RowLaws.{list_inside, plain_view, row_blank, rows_set, view_of}
use Rattle.cu_store.proofs.store.Store.forget.Goals as goal

pub returns-then-list-len : goal.returns-then-list-len
returns-then-list-len c =
    let inside = c.self.inside in
    let pool = inside.pool.items in
    let rows = inside.rows.items in
    let there : c.args.list < length rows = omega (arith, c.if-list-len.true, c.len.ensures, inside.rows.ok.0) in
    ap (λ (rs : List Row). view_of pool rs inside.room) (rows_set inside.lists rows c.args.list row.Unknown there)
    ∙ plain_view pool (rows_of inside.lists rows) inside.room c.args.list row.Unknown c.args.self.now c.self.view_is

pub returns-else-list-len : goal.returns-else-list-len
returns-else-list-len c =
    let inside = c.self.inside in
    let pool = inside.pool.items in
    let rows = inside.rows.items in
    let behind : length rows ≤ c.args.list = omega (arith, c.if-list-len.false, c.len.ensures, inside.rows.ok.0) in
    let among = list_inside pool rows inside.lists inside.room c.args.list c.args.self.now c.self.view_is c.self.invariant.4 c.requires in
    sym c.self.view_is
    ∙ ap (λ (rs : List Row). view_of pool rs inside.room) (sym (row_blank inside.lists rows c.args.list behind among))
    ∙ plain_view pool (rows_of inside.lists rows) inside.room c.args.list row.Unknown c.args.self.now c.self.view_is
