use Rattle.std.proofs.Common.{arith}
use Rattle.cu_wait.specs.declared.points.Point.{Point}
use Rattle.cu_model.proofs.Begun.{in_order}
use Rattle.cu_wait.proofs.LeftLegLaws.{point_at}
use Rattle.cu_wait.proofs.left.index_of.Goals as goal

pub begun-requires : goal.begun-requires
begun-requires c = in_order (λ (p : Point). p.second) c.args.points.now c.requires.measured.rises

pub overflow_sub-result : goal.overflow_sub-result
overflow_sub-result c =
    let found = point_at c.args.points.now c.args.second c.begun.result c.requires.measured c.requires.second c.begun.ensures.point c.begun.ensures.bound in
    omega (arith, found.0)

pub returns-clause-begun : goal.returns-clause-begun
returns-clause-begun c = (point_at c.args.points.now c.args.second c.begun.result c.requires.measured c.requires.second c.begun.ensures.point c.begun.ensures.bound).1

pub returns-clause-next : goal.returns-clause-next
returns-clause-next c = (point_at c.args.points.now c.args.second c.begun.result c.requires.measured c.requires.second c.begun.ensures.point c.begun.ensures.bound).2
