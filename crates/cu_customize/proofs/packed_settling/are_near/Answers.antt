use Rattle.std.proofs.Common.{◌≡◌, ◌<◌, ℕ, List, length, rules, subst, sym, take, true, arith}
use Rattle.std.proofs.Math.Seq.{take-length}
use Rattle.cu_customize.specs.declared.triangles.Triangle.{Triangle}
use Rattle.cu_customize.specs.Steps.Gathering.{AreNear}
use Rattle.cu_customize.proofs.PackedSettles.{near_more}
use Rattle.cu_customize.proofs.packed_settling.are_near.Goals as goal

pub loop-triangle-preserved : goal.loop-triangle-preserved
loop-triangle-preserved c g is =
    let inside : c.loop-triangle.triangle-index < length c.args.task.now.triangles.now = omega arith in
    let near : c.is_near.result ≡ true = search rules in
    near_more g c.args.task.now c.args.task.now.triangles.now c.loop-triangle.triangle-index _ inside (c.loop-triangle.invariant g is) (c.is_near.ensures.near g is near)

pub returns-clause-near : goal.returns-clause-near
returns-clause-near c g is whole =
    let triangles = c.args.task.now.triangles.now in
    let all : c.loop-triangle.triangle-index ≡ length triangles = omega arith in
    let taken : take c.loop-triangle.triangle-index triangles ≡ triangles = subst (λ (k : ℕ). take k triangles ≡ triangles) (sym all) (take-length triangles) in
    subst (λ (ts : List Triangle). AreNear g c.args.task.now ts) taken (c.loop-triangle.invariant g is)
