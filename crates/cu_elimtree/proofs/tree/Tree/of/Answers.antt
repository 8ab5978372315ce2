use Rattle.cu_elimtree.proofs.Unique.{tree_unique}
use Rattle.cu_elimtree.proofs.tree.Tree.of.Goals as goal

pub returns-clause-named : goal.returns-clause-named
returns-clause-named c = tree_unique c.args.graph.now c.in_ok-parents.parents.items c.in_ok-parents.ensures.parents
