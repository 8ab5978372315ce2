use Rattle.std.proofs.Common.{◌≡◌, ◌*◌, ◌∙◌, Some, ap, length, subst, sym}
use Rattle.std.specs.Prelude.{slice_get}
use Rattle.cu_io.specs.Sinks.{Wrote}
use Rattle.cu_interval.specs.Hierarchies.{HierarchyValue, IsHierarchy}
use Rattle.cu_reach.specs.Departures.{IsDeparture}
use Rattle.cu_router.specs.Reaches.{IsHeldLatestReply}
use Rattle.cu_router.specs.Steps.Departing.{departure_text}
use Rattle.cu_router.proofs.DepartureLaws.{departure_told}
use Rattle.cu_sequences.specs.Kept.{AreSequences}
use Rattle.cu_store.specs.Known.{Knows}
use Rattle.cu_router.proofs.query_room.QueryRoom.put_latest.Goals as goal

pub new-recall-requires-clause-sequences : goal.new-recall-requires-clause-sequences
new-recall-requires-clause-sequences g c = subst (λ (h : HierarchyValue). AreSequences h c.args.lists.now.sequences) (sym c.view-view.ensures.same) c.requires.lists.sequences

pub new-recall-requires-clause-size : goal.new-recall-requires-clause-size
new-recall-requires-clause-size g c = c.requires.lists.size ∙ ap (λ (h : HierarchyValue). 2 * length h.edges) (sym c.view-view.ensures.same)

pub new-recall-requires-clause-knows : goal.new-recall-requires-clause-knows
new-recall-requires-clause-knows g c = subst (λ (h : HierarchyValue). Knows h c.args.lists.now.store.known) (sym c.view-view.ensures.same) c.requires.lists.knows

pub put_departure-outcome-requires-clause-departs : goal.put_departure-outcome-requires-clause-departs
put_departure-outcome-requires-clause-departs g c =
    let same = sym c.latest-departure.ensures.stays in
    subst (λ (h : HierarchyValue). IsDeparture h c.rank-from.result c.rank-to.result c.args.asked.by c.latest-departure.result) same c.latest-departure.ensures.departure

pub returns-clause-reply : goal.returns-clause-reply
returns-clause-reply g c =
    let held = c.args.held.now in
    let asked = c.args.asked in
    let found = c.latest-departure in
    let over = c.new-recall.ensures.view in
    let seen = c.view-view.ensures.same in
    let start = subst (λ (h : HierarchyValue). slice_get h.order.rank_of asked.from ≡ Some c.rank-from.result) (sym over) c.rank-from.ensures.there in
    let stop = subst (λ (h : HierarchyValue). slice_get h.order.rank_of asked.to ≡ Some c.rank-to.result) (sym over) c.rank-to.ensures.there in
    let sound = subst IsHierarchy (sym over) c.rank-from.ensures.sound in
    let told = departure_told c.new-recall.result sound asked c.rank-from.result c.rank-to.result start stop found.result
    found.ensures.departure found.ensures.search found.ensures.latest in
    let wrote = subst (λ (h : HierarchyValue). Wrote (g.K.Sink.state c.args.sink.now) (g.K.Sink.state c.put_departure-outcome.new.sink) c.put_departure-outcome.result
    (departure_text h asked found.result)) (c.latest-departure.ensures.stays ∙ over ∙ seen) c.put_departure-outcome.ensures.wrote in (
      departure_text held asked found.result,
      subst (λ (h : HierarchyValue). IsHeldLatestReply h asked (departure_text h asked found.result)) (over ∙ seen) told,
      wrote,
    )
