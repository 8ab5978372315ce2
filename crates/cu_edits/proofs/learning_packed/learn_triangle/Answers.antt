use Rattle.std.proofs.Common.{◌≡◌, Bool, rules, true}
use Rattle.std.proofs.lemmas.Result.{IfOk-weaker}
use Rattle.cu_edits.specs.Steps.Packed.{IsAtHand}
use Rattle.cu_edits.specs.Steps.Moving.{BothAre}
use Rattle.cu_edits.specs.Steps.Triangles.{AreLearned}
use Rattle.cu_edits.proofs.TriangleHalves.{both_learned, left_out, told_halves}
use Rattle.cu_edits.proofs.learning_packed.learn_triangle.Goals as goal

pub is_left_out-requires : goal.is_left_out-requires
is_left_out-requires g c = told_halves c.args.asked.now.moved.now c.args.asked.now.dir c.args.triangle c.half_edges-edges.result c.half_edges-edges.ensures c.requires.sides

pub learn_halves-requires-clause-edges : goal.learn_halves-requires-clause-edges
learn_halves-requires-clause-edges g c = told_halves c.args.asked.now.moved.now c.args.asked.now.dir c.args.triangle c.half_edges-edges.result c.half_edges-edges.ensures c.requires.sides

pub returns-then-is_left_out-clause-known : goal.returns-then-is_left_out-clause-known
returns-then-is_left_out-clause-known g c is =
    let out : c.is_left_out.result ≡ true = search rules in
    left_out c.args.parts.now.before c.args.which c.args.asked.now.moved.now c.args.packed.now c.args.asked.now.dir c.args.triangle c.half_edges-edges.result c.half_edges-edges.ensures
    (c.is_left_out.ensures out)

pub returns-clause-known : goal.returns-clause-known
returns-clause-known g c =
    let h = c.args.parts.now.before in
    let which = c.args.which in
    let moved = c.args.asked.now.moved.now in
    let dir = c.args.asked.now.dir in
    let edges = c.half_edges-edges.result in
    let now = c.learn_halves.new.packed in
    IfOk-weaker c.learn_halves.result (λ (is_near : Bool). is_near ≡ true → BothAre (IsAtHand moved now) edges)
    (λ (is_near : Bool). is_near ≡ true → AreLearned h which moved now dir c.args.triangle)
    (λ is_near known is. both_learned h which moved now dir c.args.triangle edges c.half_edges-edges.ensures (known is)) c.learn_halves.ensures.known
