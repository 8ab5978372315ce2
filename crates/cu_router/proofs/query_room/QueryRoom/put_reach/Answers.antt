use Rattle.std.proofs.Common.{◌≡◌, ◌∙◌, Some, subst}
use Rattle.std.specs.Prelude.{slice_get}
use Rattle.cu_io.specs.Sinks.{Wrote}
use Rattle.cu_io.proofs.Appending.{wrote_same}
use Rattle.cu_interval.specs.Hierarchies.{HierarchyValue}
use Rattle.cu_reach.specs.Reaching.{HoldsReached, reached}
use Rattle.cu_reach.specs.ReachTexts.{reach_text}
use Rattle.cu_router.proofs.TableLaws.{reach_told}
use Rattle.cu_router.proofs.query_room.QueryRoom.put_reach.Goals as goal

pub returns-clause-wrote : goal.returns-clause-wrote
returns-clause-wrote g c =
    let held = c.args.held.now in
    let from = c.rank-from.result in
    let answer = c.reach-reached.result in
    let over = c.new-recall.ensures.view in
    let seen = c.view-view.ensures.same in
    let holds = subst (λ (h : HierarchyValue). HoldsReached h from c.args.asked.second answer c.reach-reached.new.desk) over c.reach-reached.ensures.holds in
    let start = subst (λ (h : HierarchyValue). slice_get h.order.rank_of c.args.asked.from ≡ Some from) seen c.rank-from.ensures.there in
    let is = subst (λ (h : HierarchyValue). answer ≡ reached h from c.args.asked.second) (over ∙ seen) c.reach-reached.ensures.reached in
    let wrote = subst (λ (h : HierarchyValue). Wrote (g.K.Sink.state c.args.sink.now) (g.K.Sink.state c.put_reach.new.sink) c.put_reach.result (reach_text h from c.args.asked.second answer))
    seen (c.put_reach.ensures.wrote from c.args.asked.second holds) in
    wrote_same (reach_told held c.args.asked from answer start is) wrote
