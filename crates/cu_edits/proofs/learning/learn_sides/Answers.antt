use Rattle.std.proofs.Common.{◌∙◌, arith, get_or, refl}
use Rattle.std.proofs.lemmas.List.Elements.{Contains-get_or}
use Rattle.cu_chordal.proofs.Tables.{edge_within}
use Rattle.cu_edits.proofs.LearntSides.{learning_all, learning_more}
use Rattle.cu_edits.proofs.learning.learn_sides.Goals as goal

pub learn_triangle-requires-clause-middle : goal.learn_triangle-requires-clause-middle
learn_triangle-requires-clause-middle g c =
    let middles = c.down-middle-items.result.now in
    let middle = get_or middles c.loop-middle.middle-index 0 in
    let side = (c.down-middle-items.ensures.members middle).0 (Contains-get_or middles c.loop-middle.middle-index 0 c.loop-middle-test.true) in
    let within = edge_within c.args.parts.now.graph c.down-middle-items.ensures.sound middle c.args.ends.low side in
    let low = within.0 in
    let high = within.1 in
    omega (arith, low, high)

pub loop-middle-preserved : goal.loop-middle-preserved
loop-middle-preserved g c = record {
  learns = learning_more c.args.parts.now.before c.args.parts.now.graph.edges c.args.ends c.down-middle-items.result.now c.loop-middle.middle-index
      (get_or c.down-middle-items.result.now c.loop-middle.middle-index 0) c.args.known.now c.loop-middle.known c.learn_triangle.new.known c.loop-middle.invariant.learns refl
      c.in_ok-learn_triangle.ensures.learns c.in_ok-learn_triangle.ensures.sides;
  size = c.in_ok-learn_triangle.ensures.size ∙ c.loop-middle.invariant.size;
  keeps = c.in_ok-learn_triangle.ensures.keeps;
}

pub returns-clause-sides : goal.returns-clause-sides
returns-clause-sides g c =
    learning_all c.args.parts.now.before c.args.parts.now.graph.edges c.args.ends c.down-middle-items.result.now c.loop-middle.middle-index c.args.known.now c.loop-middle.known
    c.loop-middle.invariant.learns (omega (arith, c.loop-middle-test.false, c.loop-middle.auto.middle-index-end)) (λ x. (c.down-middle-items.ensures.members x).1)
