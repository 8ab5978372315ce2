use Rattle.std.proofs.Common.{◌∙◌, ap}
use Rattle.cu_elimtree.specs.SweepArcs.{parents_in}
use Rattle.cu_router.proofs.held_file.beside.Goals as goal

pub returns-clause-tree : goal.returns-clause-tree
returns-clause-tree c = c.in_ok-tree.ensures.named ∙ ap parents_in c.in_ok-graph.ensures.same
