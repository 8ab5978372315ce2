use Rattle.std.proofs.Common.{◌≡◌, ◌-◌, ◌+◌, ◌++◌, ◌∙◌, ℕ, List, Option, Some, ap, sym, subst, arith, length, replicate}
use Rattle.std.specs.Prelude.{slice_set, All}
use Rattle.std.proofs.lemmas.List.{length-append, length-map, length-set, length-take-le}
use Rattle.cu_brief.specs.BriefRuns.{run_of_brief}
use Rattle.cu_store.specs.declared.rows.Row.{Row}
use Rattle.cu_store.specs.declared.rows.Row.TheVariants as row
use Rattle.cu_store.specs.Known.{KnownFunction, ended}
use Rattle.cu_store.specs.Pool.{IsRowIn, rows_of}
use Rattle.cu_store.proofs.RowLaws.{added_row, rows_in-set, rows_set, view_of, written_view}
use Rattle.cu_store.proofs.store.Store.put.Goals as goal

pub invariant_of-self-2 : goal.invariant_of-self-2
invariant_of-self-2 c =
    let (added, items, mean) = c.encode.ensures.means c.if-not-encode.false in
    let packed = c.args.packed.now in
    let inside = c.self.inside in
    let pool = inside.pool.items in
    let lists = inside.lists in
    let rows = c.make_row.new.rows.items in
    let base = c.least_travel-base.result in
    let start = c.len-start.result in
    let count = length packed - 1 in
    let same = ap length mean.runs in
    let size = length-map added (run_of_brief base) in
    let short = length-take-le count packed (omega arith) in
    let is_count : count ≡ length added = omega (arith, same, size, short) in
    let is_start : start ≡ length pool = c.len-start.ensures ∙ inside.pool.ok.0 in
    let r = row.Runs base start count in
    let one = added_row pool added packed base start count mean.runs mean.day is_start is_count in
    let before : All (IsRowIn pool) (rows_of lists rows) = subst (All (IsRowIn pool)) (sym c.make_row.ensures.same) c.self.invariant.0 in
    let there = c.make_row.ensures.there in
    let long_rows = length-append rows (replicate (lists - length rows) row.Unknown) in
    let all = rows_in-set pool added (rows_of lists rows) c.args.list r (omega (arith, there, long_rows)) before one.1 in
    let written = subst (All (IsRowIn (pool ++ added))) (sym (rows_set lists rows c.args.list r there)) all in
    let long = length-append pool added in
    let more = ap length items in
    let room = c.encode.ensures.room in
    let kept = length-set rows c.args.list r in (
      subst (λ (p : List ℕ). All (IsRowIn p) (rows_of lists (slice_set rows c.args.list r))) (sym items) written,
      omega (arith, long, more, is_start, is_count, c.if-packed-self.false, c.self.invariant.1),
      omega (arith, room, c.self.invariant.2),
      c.self.invariant.3,
      omega (arith, kept, c.make_row.ensures.most),
      λ some. c.make_row.ensures.room,
    )

pub returns-clause-kept : goal.returns-clause-kept
returns-clause-kept c e =
    let (added, items, mean) = c.encode.ensures.means c.if-not-encode.false in
    let packed = c.args.packed.now in
    let inside = c.self.inside in
    let pool = inside.pool.items in
    let lists = inside.lists in
    let rows = c.make_row.new.rows.items in
    let base = c.least_travel-base.result in
    let start = c.len-start.result in
    let count = length packed - 1 in
    let same = ap length mean.runs in
    let size = length-map added (run_of_brief base) in
    let short = length-take-le count packed (omega arith) in
    let is_count : count ≡ length added = omega (arith, same, size, short) in
    let is_start : start ≡ length pool = c.len-start.ensures ∙ inside.pool.ok.0 in
    let r = row.Runs base start count in
    let one = added_row pool added packed base start count mean.runs mean.day is_start is_count in
    let before : All (IsRowIn pool) (rows_of lists rows) = subst (All (IsRowIn pool)) (sym c.make_row.ensures.same) c.self.invariant.0 in
    let v = c.args.self.now in
    let seen : view_of pool (rows_of lists rows) inside.room ≡ v = ap (λ (rs : List Row). view_of pool rs inside.room) c.make_row.ensures.same ∙ c.self.view_is in
    ap (λ (p : List ℕ). view_of p (rows_of lists (slice_set rows c.args.list r)) inside.room) items
    ∙ ap (λ (rs : List Row). view_of (pool ++ added) rs inside.room) (rows_set lists rows c.args.list r c.make_row.ensures.there)
    ∙ written_view pool added (rows_of lists rows) inside.room c.args.list r v before seen
    ∙ ap (λ (k : Option (Option KnownFunction)). record { known = slice_set v.known c.args.list k; used = v.used + length added; room = v.room }) one.0
    ∙ ap (λ (n : ℕ). record { known = slice_set v.known c.args.list (Some (Some (record { runs = ended packed }))); used = v.used + n; room = v.room }) (sym is_count)
