use Rattle.std.proofs.Common.{◌≡◌, ◌<◌, ◌∙◌, ◌++◌, ℕ, List, [], ap, subst, sym}
use Rattle.std.specs.Prelude.{All}
use Rattle.std.proofs.lemmas.List.{append-nil}
use Rattle.std.proofs.lemmas.List.Elements.{All-tail}
use Rattle.cu_io.proofs.Appending.{wrote_ok, wrote_same, wrote_stops, wrote_then}
use Rattle.cu_chordal.specs.Graphs.{ChordalValue}
use Rattle.cu_short.specs.Shortness.{NeverLong}
use Rattle.cu_reach.specs.Aims.{IsPath}
use Rattle.cu_reach.specs.declared.reaching.Reached.TheVariants.{Done}
use Rattle.cu_reach.specs.ReachTexts.{row_then, table_rows, times_at, times_text}
use Rattle.cu_router.proofs.TableLaws.{row_next, rows_whole, times_over}
use Rattle.cu_router.proofs.reaches.put_led_rows.Goals as goal

pub reach_over-requires-clause-path : goal.reach_over-requires-clause-path
reach_over-requires-clause-path g c = subst (λ (graph : ChordalValue). IsPath graph c.args.path.now) (sym c.graph-graph.ensures) c.requires.path

pub reach_over-requires-clause-short : goal.reach_over-requires-clause-short
reach_over-requires-clause-short g c = subst NeverLong (sym (c.rows.invariant.stays ∙ c.requires.same)) c.requires.short

pub returns-in_err-put_times-clause-wrote : goal.returns-in_err-put_times-clause-wrote
returns-in_err-put_times-clause-wrote g c =
    let h = c.args.held.now in
    let asked = c.args.asked.now in
    let at = c.second-second.result in
    let from = c.rank-from.result in
    let targets = c.targets.result in
    let over = c.rows.invariant.stays ∙ c.requires.same in
    let seen = c.view-view.ensures.same in
    let (done, wrote, whole) = c.rows.invariant.wrote in
    let left = table_rows h asked.second asked.targets c.next.new.self in
    let next = row_next h c.rows.recall c.view-view.result from asked.second at c.in-Some.source asked.targets targets c.next.new.self c.rows.source-iterator Done
    over seen c.second-second.ensures c.targets.ensures c.in-Some.ensures.steps c.rank-from.ensures.there (sym c.reach_over.ensures.reached) in
    let holds = times_over h c.rows.recall c.view-view.result from at c.args.path.now asked.targets targets c.reach_over.new.desk over seen c.targets.ensures c.requires.aimed c.reach_over.ensures.holds in
    let times = times_text (times_at c.view-view.result from at targets) in
    let row : row_then c.view-view.result from at targets Done [] ≡ times = append-nil times in
    let all = rows_whole _ done _ times left whole (next ∙ ap (λ (t : List ℕ). t ++ left) row) in
    wrote_same (sym all) (wrote_stops left c.from_residual.ensures.0 (wrote_then wrote (c.in_err-put_times.ensures.wrote from at holds)))

pub rows-preserved : goal.rows-preserved
rows-preserved g c =
    let h = c.args.held.now in
    let asked = c.args.asked.now in
    let at = c.second-second.result in
    let from = c.rank-from.result in
    let targets = c.targets.result in
    let over = c.rows.invariant.stays ∙ c.requires.same in
    let seen = c.view-view.ensures.same in
    let (done, wrote, whole) = c.rows.invariant.wrote in
    let left = table_rows h asked.second asked.targets c.next.new.self in
    let next = row_next h c.rows.recall c.view-view.result from asked.second at c.in-Some.source asked.targets targets c.next.new.self c.rows.source-iterator Done
    over seen c.second-second.ensures c.targets.ensures c.in-Some.ensures.steps c.rank-from.ensures.there (sym c.reach_over.ensures.reached) in
    let holds = times_over h c.rows.recall c.view-view.result from at c.args.path.now asked.targets targets c.reach_over.new.desk over seen c.targets.ensures c.requires.aimed c.reach_over.ensures.holds in
    let times = times_text (times_at c.view-view.result from at targets) in
    let row : row_then c.view-view.result from at targets Done [] ≡ times = append-nil times in
    let all = rows_whole _ done _ times left whole (next ∙ ap (λ (t : List ℕ). t ++ left) row) in
    let low = subst (All (λ node. node < h.network.nodes)) c.in-Some.ensures.steps c.rows.invariant.low in
    record {
      low = All-tail (λ node. node < h.network.nodes) c.in-Some.source c.next.new.self low;
      wrote = (done ++ times, wrote_ok (wrote_then wrote (c.in_ok-put_times.ensures.wrote from at holds)), all);
      stays = c.reach_over.ensures.stays ∙ c.rows.invariant.stays;
      desk = c.reach_over.ensures.nodes ∙ c.rows.invariant.desk;
    }
