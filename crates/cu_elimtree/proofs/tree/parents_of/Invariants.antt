use Rattle.cu_elimtree.proofs.Climbing.{AreParents}
use Rattle.cu_elimtree.proofs.tree.parents_of.Given as goal

abbrev pub invariant-loop-rank : goal.invariant-loop-rank
invariant-loop-rank l = AreParents l.graph l.rank l.parents.items
