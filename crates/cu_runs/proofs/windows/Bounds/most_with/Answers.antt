use Rattle.std.proofs.Common.{arith}
use Rattle.cu_runs.proofs.BoundLaws.{most_behind}
use Rattle.cu_runs.proofs.windows.Bounds.most_with.Goals as goal

pub returns : goal.returns
returns c = λ first behind function one two known.
    most_behind first behind function c.args.self.now c.args.second.now c.requires.same one two c.args.window c.requires.window _ (omega (arith, c.from.ensures, c.from-2.ensures))
    (omega (arith, c.if-most-from.false, c.from-3.ensures))
