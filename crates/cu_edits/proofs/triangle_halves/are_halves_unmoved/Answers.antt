use Rattle.std.proofs.Common.{◌≡◌, ◌<◌, arith, length, rules, subst, true}
use Rattle.std.proofs.lemmas.List.Elements.{All-more}
use Rattle.cu_edits.specs.Steps.Moving.{BothAre, IsUnmoved}
use Rattle.cu_edits.specs.Steps.Triangles.{HalvesByAre}
use Rattle.cu_edits.proofs.FirstOnes.{all_of_first}
use Rattle.cu_edits.proofs.TriangleHalves.{told_halves}
use Rattle.cu_edits.proofs.triangle_halves.are_halves_unmoved.Goals as goal

pub are_both_unmoved-requires : goal.are_both_unmoved-requires
are_both_unmoved-requires c =
    let inside : c.loop-triangle.triangle-index < length c.args.triangles.now = omega (arith, c.loop-triangle-test.true) in
    told_halves c.args.moved.now c.args.dir _ c.half_edges.result c.half_edges.ensures (c.requires c.loop-triangle.triangle-index _ inside)

pub loop-triangle-preserved : goal.loop-triangle-preserved
loop-triangle-preserved c =
    let unmoved : c.are_both_unmoved.result ≡ true = search rules in
    All-more (HalvesByAre (IsUnmoved c.args.moved.now) c.args.dir) c.args.triangles.now c.loop-triangle.triangle-index _ c.loop-triangle-test.true c.loop-triangle.invariant
    (subst (BothAre (IsUnmoved c.args.moved.now)) c.half_edges.ensures (c.are_both_unmoved.ensures unmoved))

pub returns : goal.returns
returns c is =
    all_of_first (HalvesByAre (IsUnmoved c.args.moved.now) c.args.dir) c.args.triangles.now c.loop-triangle.triangle-index (omega (arith, c.loop-triangle-test.false)) c.loop-triangle.invariant
