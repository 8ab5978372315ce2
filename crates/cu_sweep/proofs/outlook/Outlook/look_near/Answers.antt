use Rattle.std.proofs.Common.{subst}
use Rattle.cu_chordal.specs.Graphs.{ChordalValue}
use Rattle.cu_bounds.specs.Near.{kept_bound}
use Rattle.cu_sweep.specs.Outlooks.{FallsBy}
use Rattle.cu_sweep.proofs.Falling.{ahead_by, kept_below}
use Rattle.cu_sweep.proofs.outlook.Outlook.look_near.Goals as goal

pub returns-clause-ahead : goal.returns-clause-ahead
returns-clause-ahead c =
    let q = c.args.question in
    let up = c.look_by.new.self.up in
    let down = c.look_by.new.self.down in
    let bound = kept_bound c.args.bounds.now in
    λ h same near.
    ahead_by h bound (kept_below h c.args.bounds.now near) q.from q.to up down
    (subst (λ (v : ChordalValue). FallsBy bound v q.from q.to up down) same c.look_by.ensures.ahead)
