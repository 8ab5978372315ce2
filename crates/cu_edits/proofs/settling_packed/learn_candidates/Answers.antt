use Rattle.std.proofs.Common.{Bool}
use Rattle.std.proofs.lemmas.Result.{IfOk-weaker}
use Rattle.cu_edits.proofs.AtHand.{some_at_hand, told_sides}
use Rattle.cu_edits.proofs.LearntPacked.{learns_then}
use Rattle.cu_edits.proofs.settling_packed.learn_candidates.Goals as goal

pub learn_middles-requires-clause-sides : goal.learn_middles-requires-clause-sides
learn_middles-requires-clause-sides g c =
    told_sides c.args.asked.now.moved.now c.args.parts.now.graph.edges c.args.asked.now.edge c.args.asked.now.triangles.now c.requires.moved c.requires.edge c.requires.triangles

pub returns-clause-known : goal.returns-clause-known
returns-clause-known g c =
    let asked = c.args.asked.now in
    IfOk-weaker c.learn_middles.result _ _
    (λ (is_near : Bool) known near. some_at_hand c.args.parts.now.before c.args.parts.now.graph c.keeps_its_ways.ensures.fit.0.hierarchy c.args.parts.now.edit
    c.args.parts.now.customized asked.moved.now asked.edge asked.dir c.learn_ways.new.packed c.learn_middles.new.packed asked.triangles.now c.requires.triangles
    (c.keeps_its_ways.ensures.keeps c.if-not-keeps_its_ways.false) (c.in_ok-learn_ways.ensures.known c.if-not-branch.false) c.learn_middles.ensures.learns (known near))
    c.learn_middles.ensures.known

pub learn_middles-requires-clause-packed : goal.learn_middles-requires-clause-packed
learn_middles-requires-clause-packed g c = c.learn_ways.ensures.learns.packed

pub returns-clause-learns : goal.returns-clause-learns
returns-clause-learns g c =
    learns_then c.args.parts.now.before c.args.packed.now c.learn_ways.new.packed c.learn_middles.new.packed c.learn_ways.ensures.learns c.learn_middles.ensures.learns
