use Rattle.std.proofs.Common.{arith, ◌≤◌, ◌<◌, ◌+◌, ◌∙◌, ℕ, List, Some, ap, length, sym, subst}
use Rattle.cu_arrival.specs.Runs.{arrival_value}
use Rattle.cu_brief.specs.BriefRuns.{IsBrief, runs_of}
use Rattle.cu_store.specs.declared.rows.Row.{Row}
use Rattle.cu_store.specs.declared.rows.Row.TheVariants as row
use Rattle.cu_store.specs.declared.store.Found.TheVariants as found
use Rattle.cu_store.specs.Known.{found_at}
use Rattle.cu_store.specs.Pool.{known_by, rows_of, runs_in}
use Rattle.cu_store.proofs.RowLaws.{end_after, found_row, list_inside, row_behind, row_there, runs_there}
use Rattle.cu_store.proofs.store.Store.value.Goals as goal

pub returns-then-list-len : goal.returns-then-list-len
returns-then-list-len c =
    let inside = c.self.inside in
    let pool = inside.pool.items in
    let rows = inside.rows.items in
    let behind : length rows ≤ c.args.list = omega (arith, c.if-list-len.true, c.len.ensures, inside.rows.ok.0) in
    let among = list_inside pool rows inside.lists inside.room c.args.list c.args.self.now c.self.view_is c.self.invariant.4 c.requires.list in
    sym (found_row pool (rows_of inside.lists rows) inside.room c.args.list c.args.second c.args.self.now row.Unknown c.self.view_is c.requires.list
    (sym (row_behind inside.lists rows c.args.list row.Unknown behind among)))

pub value_in-requires-clause-within : goal.value_in-requires-clause-within
value_in-requires-clause-within c =
    let inside = c.self.inside in
    let r = c.in-Runs in
    let there : c.args.list < length inside.rows.items = omega (arith, c.if-list-len.false, c.len.ensures, inside.rows.ok.0) in
    let at = runs_there inside.pool.items inside.lists inside.rows.items c.args.list c.index.result.now r.base r.start r.count c.self.invariant.0 there c.index.ensures r.is in
    subst (λ (p : List ℕ). r.start + r.count ≤ length p) (sym c.deref.ensures.value) at.0

pub value_in-requires-clause-brief : goal.value_in-requires-clause-brief
value_in-requires-clause-brief c =
    let inside = c.self.inside in
    let r = c.in-Runs in
    let there : c.args.list < length inside.rows.items = omega (arith, c.if-list-len.false, c.len.ensures, inside.rows.ok.0) in
    let at = runs_there inside.pool.items inside.lists inside.rows.items c.args.list c.index.result.now r.base r.start r.count c.self.invariant.0 there c.index.ensures r.is in
    subst (λ (p : List ℕ). IsBrief (runs_in p r.start r.count)) (sym c.deref.ensures.value) at.1

pub returns-in-Unknown : goal.returns-in-Unknown
returns-in-Unknown c =
    let inside = c.self.inside in
    let pool = inside.pool.items in
    let rows = inside.rows.items in
    let there : c.args.list < length rows = omega (arith, c.if-list-len.false, c.len.ensures, inside.rows.ok.0) in
    let said = found_row pool (rows_of inside.lists rows) inside.room c.args.list c.args.second c.args.self.now c.index.result.now c.self.view_is c.requires.list
    (c.index.ensures ∙ sym (row_there inside.lists rows c.args.list c.index.result.now there)) in
    sym (said ∙ ap (λ (w : Row). found_at (Some (known_by pool w)) c.args.second) c.in-Unknown.is)

pub returns-in-Empty : goal.returns-in-Empty
returns-in-Empty c =
    let inside = c.self.inside in
    let pool = inside.pool.items in
    let rows = inside.rows.items in
    let there : c.args.list < length rows = omega (arith, c.if-list-len.false, c.len.ensures, inside.rows.ok.0) in
    let said = found_row pool (rows_of inside.lists rows) inside.room c.args.list c.args.second c.args.self.now c.index.result.now c.self.view_is c.requires.list
    (c.index.ensures ∙ sym (row_there inside.lists rows c.args.list c.index.result.now there)) in
    sym (said ∙ ap (λ (w : Row). found_at (Some (known_by pool w)) c.args.second) c.in-Empty.is)

pub returns-in-Runs : goal.returns-in-Runs
returns-in-Runs c =
    let inside = c.self.inside in
    let pool = inside.pool.items in
    let rows = inside.rows.items in
    let r = c.in-Runs in
    let there : c.args.list < length rows = omega (arith, c.if-list-len.false, c.len.ensures, inside.rows.ok.0) in
    let said = found_row pool (rows_of inside.lists rows) inside.room c.args.list c.args.second c.args.self.now c.index.result.now c.self.view_is c.requires.list
    (c.index.ensures ∙ sym (row_there inside.lists rows c.args.list c.index.result.now there)) in
    let runs = runs_of r.base (runs_in pool r.start r.count) in
    ap found.At (c.value_in.ensures ∙ ap (λ (p : List ℕ). arrival_value (runs_of r.base (runs_in p r.start r.count)) c.args.second) c.deref.ensures.value ∙ sym (end_after runs c.args.second c.requires.second))
    ∙ sym (said ∙ ap (λ (w : Row). found_at (Some (known_by pool w)) c.args.second) r.is)
