use Rattle.std.proofs.Common.{◌≡◌, arith, rules, true}
use Rattle.cu_edits.specs.Steps.Triangles.{AreLearned}
use Rattle.cu_edits.proofs.FirstOnes.{all_of_first}
use Rattle.cu_edits.proofs.LearntPacked.{learns_more, learns_then}
use Rattle.cu_edits.proofs.learning_packed.learn_middles.Goals as goal

pub learn_triangle-requires-clause-sides : goal.learn_triangle-requires-clause-sides
learn_triangle-requires-clause-sides g c = c.requires.sides c.loop-triangle.triangle-index _ c.loop-triangle-test.true

pub loop-triangle-preserved : goal.loop-triangle-preserved
loop-triangle-preserved g c =
    let h = c.args.parts.now.before in
    let asked = c.args.asked.now in
    let mid = c.loop-triangle.packed in
    let now = c.learn_triangle.new.packed in
    let learns = c.in_ok-learn_triangle.ensures.learns in
    let near : c.in_ok-learn_triangle.field-0 ≡ true = search rules in
    record {
      learns = learns_then h c.args.packed.now mid now c.loop-triangle.invariant.learns learns;
      known = learns_more h asked.moved.now mid now learns c.args.which asked.dir asked.triangles.now c.loop-triangle.triangle-index _ c.loop-triangle-test.true
          c.loop-triangle.invariant.known (c.in_ok-learn_triangle.ensures.known near);
    }

pub returns-clause-known : goal.returns-clause-known
returns-clause-known g c is =
    let asked = c.args.asked.now in
    all_of_first (AreLearned c.args.parts.now.before c.args.which asked.moved.now c.loop-triangle.packed asked.dir) asked.triangles.now c.loop-triangle.triangle-index
    (omega (arith, c.loop-triangle-test.false)) c.loop-triangle.invariant.known
