use Rattle.std.proofs.Common.{subst, arith}
use Rattle.cu_chordal.specs.Graphs.{ChordalValue}
use Rattle.cu_interval.specs.LeastBounds.{least_bound}
use Rattle.cu_sweep.specs.Outlooks.{FallsBy}
use Rattle.cu_sweep.proofs.Falling.{ahead_by}
use Rattle.cu_sweep.proofs.outlook.Outlook.look.Goals as goal

pub returns-clause-ahead : goal.returns-clause-ahead
returns-clause-ahead g c =
    let h = g.R.Relaxer.hierarchy c.args.relaxer.now in
    let q = c.args.question in
    let up = c.look_by.new.self.up in
    let down = c.look_by.new.self.down in
    let falls : FallsBy (least_bound h) c.args.graph.now q.from q.to up down = c.look_by.ensures.ahead in
    ahead_by h (least_bound h) (λ edge dir within. omega arith) q.from q.to up down
    (subst (λ (v : ChordalValue). FallsBy (least_bound h) v q.from q.to up down) c.requires.graph.0 falls)
