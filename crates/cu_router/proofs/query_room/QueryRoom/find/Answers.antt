use Rattle.std.proofs.Common.{◌*◌, ◌∙◌, ap, length, subst, sym}
use Rattle.cu_interval.specs.Hierarchies.{HierarchyValue}
use Rattle.cu_sequences.specs.Kept.{AreSequences}
use Rattle.cu_store.specs.Known.{Knows}
use Rattle.cu_router.proofs.query_room.QueryRoom.find.Goals as goal

pub new-recall-requires-clause-sequences : goal.new-recall-requires-clause-sequences
new-recall-requires-clause-sequences c = subst (λ (h : HierarchyValue). AreSequences h c.args.lists.now.sequences) (sym c.view-view.ensures.same) c.requires.lists.sequences

pub new-recall-requires-clause-size : goal.new-recall-requires-clause-size
new-recall-requires-clause-size c = c.requires.lists.size ∙ ap (λ (h : HierarchyValue). 2 * length h.edges) (sym c.view-view.ensures.same)

pub new-recall-requires-clause-knows : goal.new-recall-requires-clause-knows
new-recall-requires-clause-knows c = subst (λ (h : HierarchyValue). Knows h c.args.lists.now.store.known) (sym c.view-view.ensures.same) c.requires.lists.knows
