use Rattle.std.proofs.Common.{◌*◌, ◌∙◌, ap, length, subst, sym}
use Rattle.cu_interval.specs.Hierarchies.{HierarchyValue, IsHierarchy}
use Rattle.cu_store.specs.Known.{Knows}
use Rattle.tests_files.proofs.stored.answers_alike.Goals as goal

pub new-stored-requires-clause-sound : goal.new-stored-requires-clause-sound
new-stored-requires-clause-sound c = subst IsHierarchy (sym c.in_ok-other.ensures.view) c.requires.sound

pub new-stored-requires-clause-size : goal.new-stored-requires-clause-size
new-stored-requires-clause-size c = c.requires.size ∙ ap (λ (h : HierarchyValue). 2 * length h.edges) (sym c.in_ok-other.ensures.view)

pub new-stored-requires-clause-knows : goal.new-stored-requires-clause-knows
new-stored-requires-clause-knows c = subst (λ (h : HierarchyValue). Knows h c.args.store.now.known) (sym c.in_ok-other.ensures.view) c.requires.knows
