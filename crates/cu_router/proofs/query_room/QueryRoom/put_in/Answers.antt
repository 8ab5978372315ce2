use Rattle.std.proofs.Common.{◌≡◌, ◌∙◌, ℕ, List, Some, ap, length, rules, subst, sym, ◌*◌}
use Rattle.std.specs.Prelude.{slice_get}
use Rattle.cu_io.specs.Sinks.{Wrote}
use Rattle.cu_io.proofs.Appending.{wrote_same}
use Rattle.cu_drive.specs.RoadTexts.{arrival_text}
use Rattle.cu_interval.specs.Hierarchies.{HierarchyValue, IsHierarchy}
use Rattle.cu_sequences.specs.Kept.{AreSequences}
use Rattle.cu_store.specs.Known.{Knows}
use Rattle.cu_router.specs.Swept.{swept_between}
use Rattle.cu_router.proofs.RouteLaws.{swept_is}
use Rattle.cu_router.proofs.query_room.QueryRoom.put_in.Goals as goal

pub new-recall-requires-clause-sequences : goal.new-recall-requires-clause-sequences
new-recall-requires-clause-sequences g c = subst (λ (h : HierarchyValue). AreSequences h c.args.lists.now.sequences) (sym c.view-view.ensures.same) c.requires.lists.sequences

pub new-recall-requires-clause-size : goal.new-recall-requires-clause-size
new-recall-requires-clause-size g c = c.requires.lists.size ∙ ap (λ (h : HierarchyValue). 2 * length h.edges) (sym c.view-view.ensures.same)

pub new-recall-requires-clause-knows : goal.new-recall-requires-clause-knows
new-recall-requires-clause-knows g c = subst (λ (h : HierarchyValue). Knows h c.args.lists.now.store.known) (sym c.view-view.ensures.same) c.requires.lists.knows

pub new-stored-requires-clause-sound : goal.new-stored-requires-clause-sound
new-stored-requires-clause-sound g c = subst IsHierarchy (sym (c.new-recall.ensures.view ∙ c.view-view.ensures.same)) c.view-view.ensures.sound

pub new-stored-requires-clause-size : goal.new-stored-requires-clause-size
new-stored-requires-clause-size g c =
    c.requires.lists.size ∙ ap (λ (h : HierarchyValue). 2 * length h.edges) (sym (c.new-recall.ensures.view ∙ c.view-view.ensures.same))

pub new-stored-requires-clause-knows : goal.new-stored-requires-clause-knows
new-stored-requires-clause-knows g c = subst (λ (h : HierarchyValue). Knows h c.args.lists.now.store.known) (sym (c.new-recall.ensures.view ∙ c.view-view.ensures.same)) c.requires.lists.knows

pub returns-clause-wrote : goal.returns-clause-wrote
returns-clause-wrote g c =
    let h = c.args.held.now in
    let query = c.args.query in
    let from = c.rank-from.result in
    let to = c.rank-to.result in
    let says : HierarchyValue → ℕ → List ℕ → List ℕ = λ v. arrival_text (g.P.WalkForm.word c.args.form.now) (g.P.WalkForm.text c.args.form.now) v.network query.second in
    let same : c.new-stored.result ≡ h = c.new-stored.ensures ∙ c.new-recall.ensures.view ∙ c.view-view.ensures.same in
    let start : slice_get h.order.rank_of query.from ≡ Some from = search rules in
    let stop : slice_get h.order.rank_of query.to ≡ Some to = search rules in
    let wrote = subst (λ (v : HierarchyValue). Wrote (g.K.Sink.state c.args.sink.now) (g.K.Sink.state c.answer-outcome.new.sink) c.answer-outcome.result
    (swept_between (says v) v from to query.second)) same c.answer-outcome.ensures.wrote in
    wrote_same (swept_is (says h) h query from to start stop) wrote
