use Rattle.std.proofs.Common.{subst}
use Rattle.cu_elimtree.specs.Trees.{IsTree}
use Rattle.cu_elimtree.proofs.Climbing.{ancestors_below, ancestors_rise}
use Rattle.cu_elimtree.proofs.tree.Tree.ancestors.Goals as goal

pub returns-clause-rising : goal.returns-clause-rising
returns-clause-rising c = ancestors_rise c.args.self.now c.args.rank (subst IsTree c.self.view_is c.self.invariant)

pub returns-clause-below : goal.returns-clause-below
returns-clause-below c = ancestors_below c.args.self.now c.args.rank (subst IsTree c.self.view_is c.self.invariant) c.requires
