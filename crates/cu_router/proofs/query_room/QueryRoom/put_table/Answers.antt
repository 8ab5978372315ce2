use Rattle.std.proofs.Common.{◌∙◌, ◌++◌, ℕ, List, ap}
use Rattle.std.specs.Prelude.{codes, not}
use Rattle.cu_io.proofs.Appending.{wrote_same, wrote_stops, wrote_then}
use Rattle.cu_reach.specs.ReachTexts.{rows_unless_none}
use Rattle.cu_router.proofs.TableLaws.{rows_of_some}
use Rattle.cu_router.proofs.query_room.QueryRoom.put_table.Goals as goal

pub returns-in_err-put_all-clause-wrote : goal.returns-in_err-put_all-clause-wrote
returns-in_err-put_all-clause-wrote g c =
    let asked = c.args.asked.now in
    wrote_stops (rows_unless_none c.args.held.now asked.second asked.sources asked.targets) c.from_residual.ensures.0 c.in_err-put_all.ensures.wrote

pub returns-clause-wrote : goal.returns-clause-wrote
returns-clause-wrote g c =
    let asked = c.args.asked.now in
    let some = c.is_none.ensures ∙ ap not c.if-is_none.false in
    let cut = rw c.targets-targets.ensures at c.next.ensures.steps in
    let rows = rows_of_some c.args.held.now asked.second asked.sources asked.targets c.next.new.self c.next.result some cut in
    wrote_same (ap (λ (t : List ℕ). codes "table" ++ t) rows) (wrote_then c.in_ok-put_all.ensures.wrote c.put_table_rows.ensures.wrote)
