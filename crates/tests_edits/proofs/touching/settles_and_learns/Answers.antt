use Rattle.std.proofs.Common.{subst, sym}
use Rattle.cu_chordal.specs.Graphs.{ChordalValue}
use Rattle.cu_edits.specs.Customized.{AreCustomized}
use Rattle.cu_interval.specs.Hierarchies.{IsHierarchyOf}
use Rattle.tests_edits.proofs.touching.settles_and_learns.Goals as goal

pub touch_over-requires-clause-graph : goal.touch_over-requires-clause-graph
touch_over-requires-clause-graph c =
    subst (λ (k : ChordalValue). IsHierarchyOf k c.args.edited.hierarchy.now) (sym c.new-ground.ensures.graph) (c.graph.ensures, c.edges-edges.ensures.sound)

pub touch_over-requires-clause-customized : goal.touch_over-requires-clause-customized
touch_over-requires-clause-customized c = subst (AreCustomized c.args.edited.hierarchy.now) (sym c.new-ground.ensures.customized) (λ edge marked. absurd (cc marked))
