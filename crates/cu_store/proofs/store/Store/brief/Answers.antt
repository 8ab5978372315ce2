use Rattle.std.proofs.Common.{arith, ◌≤◌, ◌<◌, ◌+◌, ◌∙◌, ◌++◌, [], ◌∷◌, ℕ, List, Some, ap, length, sym, subst}
use Rattle.cu_runs.specs.PackedRuns.{end_run}
use Rattle.cu_brief.specs.BriefRuns.{IsBrief, runs_of}
use Rattle.cu_store.specs.declared.rows.Row.{Row}
use Rattle.cu_store.specs.declared.rows.Row.TheVariants as row
use Rattle.cu_store.specs.Known.{HasNoRuns}
use Rattle.cu_store.specs.Pool.{known_by, rows_of, runs_in}
use Rattle.cu_store.proofs.RowLaws.{known_row, list_inside, no_runs, row_behind, row_there, runs_there}
use Rattle.cu_store.proofs.store.Store.brief.Goals as goal

pub returns-then-list-len-clause-unknown : goal.returns-then-list-len-clause-unknown
returns-then-list-len-clause-unknown c e =
    let inside = c.self.inside in
    let pool = inside.pool.items in
    let rows = inside.rows.items in
    let behind : length rows ≤ c.args.list = omega (arith, c.if-list-len.true, c.len.ensures, inside.rows.ok.0) in
    let among = list_inside pool rows inside.lists inside.room c.args.list c.args.self.now c.self.view_is c.self.invariant.4 c.requires in
    let known = known_row pool (rows_of inside.lists rows) inside.room c.args.list c.args.self.now row.Unknown c.self.view_is c.requires
    (sym (row_behind inside.lists rows c.args.list row.Unknown behind among)) in
    subst HasNoRuns (sym known) (no_runs pool row.Unknown (λ base start count is. cc is))

pub returns-in_default-clause-unknown : goal.returns-in_default-clause-unknown
returns-in_default-clause-unknown c e =
    let inside = c.self.inside in
    let pool = inside.pool.items in
    let rows = inside.rows.items in
    let r = c.index.result.now in
    let there : c.args.list < length rows = omega (arith, c.if-list-len.false, c.len.ensures, inside.rows.ok.0) in
    let known = known_row pool (rows_of inside.lists rows) inside.room c.args.list c.args.self.now r c.self.view_is c.requires (c.index.ensures ∙ sym (row_there inside.lists rows c.args.list r there)) in
    subst HasNoRuns (sym known) (no_runs pool r c.in_default.not-Runs)

pub runs_of_row-requires : goal.runs_of_row-requires
runs_of_row-requires c =
    let inside = c.self.inside in
    let r = c.in-Runs in
    let there : c.args.list < length inside.rows.items = omega (arith, c.if-list-len.false, c.len.ensures, inside.rows.ok.0) in
    let at = runs_there inside.pool.items inside.lists inside.rows.items c.args.list c.index.result.now r.base r.start r.count c.self.invariant.0 there c.index.ensures r.is in
    subst (λ (p : List ℕ). r.start + r.count ≤ length p) (sym c.deref.ensures.value) at.0

pub returns-clause-known : goal.returns-clause-known
returns-clause-known c =
    let inside = c.self.inside in
    let pool = inside.pool.items in
    let rows = inside.rows.items in
    let r = c.in-Runs in
    let there : c.args.list < length rows = omega (arith, c.if-list-len.false, c.len.ensures, inside.rows.ok.0) in
    let at = runs_there pool inside.lists rows c.args.list c.index.result.now r.base r.start r.count c.self.invariant.0 there c.index.ensures r.is in
    let known = known_row pool (rows_of inside.lists rows) inside.room c.args.list c.args.self.now c.index.result.now c.self.view_is c.requires
    (c.index.ensures ∙ sym (row_there inside.lists rows c.args.list c.index.result.now there)) in
    let same = c.runs_of_row.ensures ∙ ap (λ (p : List ℕ). runs_in p r.start r.count) c.deref.ensures.value in (
      subst IsBrief (sym same) at.1,
      (
        record { runs = runs_of r.base (runs_in pool r.start r.count) ++ end_run ∷ [] },
        known ∙ ap (λ (w : Row). Some (known_by pool w)) r.is,
        sym (ap (λ (rs : List ℕ). runs_of r.base rs ++ end_run ∷ []) same),
      ),
    )
