use Rattle.std.proofs.Common.{◌≡◌, ◌<◌, ◌∙◌, ◌++◌, ℕ, List, [], ap, refl, subst, sym}
use Rattle.std.proofs.lemmas.List.{append-nil}
use Rattle.cu_io.proofs.Appending.{wrote_ok, wrote_same, wrote_stops, wrote_then}
use Rattle.cu_interval.specs.Hierarchies.{HierarchyValue}
use Rattle.cu_reach.specs.Reaching.{HoldsReached}
use Rattle.cu_reach.specs.ReachTexts.{row_then, table_rows}
use Rattle.std.proofs.lemmas.List.Elements.{All-tail}
use Rattle.std.specs.Prelude.{All}
use Rattle.cu_router.proofs.TableLaws.{rest_behind, rest_done, row_next, rows_whole}
use Rattle.cu_router.proofs.reaches.put_rows.Goals as goal

pub returns-in_err-put_row-clause-wrote : goal.returns-in_err-put_row-clause-wrote
returns-in_err-put_row-clause-wrote g c =
    let h = c.args.held.now in
    let asked = c.args.asked.now in
    let answer = c.reach-reached.result in
    let at = c.second-second.result in
    let over = c.rows.invariant.stays ∙ c.requires.same in
    let seen = c.view-view.ensures.same in
    let (done, wrote, whole) = c.rows.invariant.wrote in
    let next = row_next h c.rows.recall c.view-view.result c.rank-from.result asked.second at c.in-Some.source asked.targets c.targets.result c.next.new.self c.rows.source-iterator answer
    over seen c.second-second.ensures c.targets.ensures c.in-Some.ensures.steps c.rank-from.ensures.there c.reach-reached.ensures.reached in
    let holds = subst (λ (g : HierarchyValue). HoldsReached g c.rank-from.result at answer c.reach-reached.new.desk) (over ∙ sym seen) c.reach-reached.ensures.holds in
    let row = row_then c.view-view.result c.rank-from.result at c.targets.result answer [] in
    let rest = rest_behind answer (table_rows h asked.second asked.targets c.next.new.self) in
    let all = rows_whole _ done _ row rest whole next in
    wrote_same (sym all) (wrote_stops rest c.from_residual.ensures.0 (wrote_then wrote (c.in_err-put_row.ensures.wrote c.rank-from.result at holds)))

pub returns-in-Long-clause-wrote : goal.returns-in-Long-clause-wrote
returns-in-Long-clause-wrote g c =
    let h = c.args.held.now in
    let asked = c.args.asked.now in
    let answer = c.reach-reached.result in
    let at = c.second-second.result in
    let over = c.rows.invariant.stays ∙ c.requires.same in
    let seen = c.view-view.ensures.same in
    let (done, wrote, whole) = c.rows.invariant.wrote in
    let next = row_next h c.rows.recall c.view-view.result c.rank-from.result asked.second at c.in-Some.source asked.targets c.targets.result c.next.new.self c.rows.source-iterator answer
    over seen c.second-second.ensures c.targets.ensures c.in-Some.ensures.steps c.rank-from.ensures.there c.reach-reached.ensures.reached in
    let holds = subst (λ (g : HierarchyValue). HoldsReached g c.rank-from.result at answer c.reach-reached.new.desk) (over ∙ sym seen) c.reach-reached.ensures.holds in
    let row = row_then c.view-view.result c.rank-from.result at c.targets.result answer [] in
    let rest = rest_behind answer (table_rows h asked.second asked.targets c.next.new.self) in
    let none : rest ≡ [] = rw c.in-Long.is refl in
    let all = rows_whole _ done _ row rest whole next in
    let end = all ∙ ap (λ (t : List ℕ). (done ++ row) ++ t) none ∙ append-nil (done ++ row) in
    wrote_same (sym end) (wrote_ok (wrote_then wrote (c.in_ok-put_row.ensures.wrote c.rank-from.result at holds)))

pub rows-preserved : goal.rows-preserved
rows-preserved g c =
    let h = c.args.held.now in
    let asked = c.args.asked.now in
    let answer = c.reach-reached.result in
    let at = c.second-second.result in
    let over = c.rows.invariant.stays ∙ c.requires.same in
    let seen = c.view-view.ensures.same in
    let (done, wrote, whole) = c.rows.invariant.wrote in
    let next = row_next h c.rows.recall c.view-view.result c.rank-from.result asked.second at c.in-Some.source asked.targets c.targets.result c.next.new.self c.rows.source-iterator answer
    over seen c.second-second.ensures c.targets.ensures c.in-Some.ensures.steps c.rank-from.ensures.there c.reach-reached.ensures.reached in
    let holds = subst (λ (g : HierarchyValue). HoldsReached g c.rank-from.result at answer c.reach-reached.new.desk) (over ∙ sym seen) c.reach-reached.ensures.holds in
    let row = row_then c.view-view.result c.rank-from.result at c.targets.result answer [] in
    let left = table_rows h asked.second asked.targets c.next.new.self in
    let rest = rest_behind answer left in
    let more = rest_done answer left (λ edge dir second is. c.in_default.not-Long edge dir second is) in
    let all = rows_whole _ done _ row rest whole next ∙ ap (λ (t : List ℕ). (done ++ row) ++ t) more in
    let low = subst (All (λ node. node < h.network.nodes)) c.in-Some.ensures.steps c.rows.invariant.low in
    record {
      low = All-tail (λ node. node < h.network.nodes) c.in-Some.source c.next.new.self low;
      wrote = (done ++ row, wrote_ok (wrote_then wrote (c.in_ok-put_row.ensures.wrote c.rank-from.result at holds)), all);
      stays = c.reach-reached.ensures.stays ∙ c.rows.invariant.stays;
      desk = c.reach-reached.ensures.nodes ∙ c.rows.invariant.desk;
    }
