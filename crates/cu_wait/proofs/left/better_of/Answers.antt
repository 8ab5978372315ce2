use Rattle.std.proofs.Common.{arith}
use Rattle.cu_wait.proofs.LeftLegLaws.{best_kept, best_taken}
use Rattle.cu_wait.proofs.left.better_of.Goals as goal

pub returns-then-best-arrival : goal.returns-then-best-arrival
returns-then-best-arrival c = λ f second same is.
    let worse = c.if-best-arrival.true in
    best_kept f second c.args.later c.args.leg c.args.best c.best_in-found.result same is c.best_in-found.ensures.best c.requires.leg.some (omega (arith, worse))

pub returns : goal.returns
returns c = λ f second same is.
    let better = c.if-best-arrival.false in
    best_taken f second c.args.later c.args.leg c.args.best c.best_in-found.result same is c.best_in-found.ensures.best (omega (arith, better))
