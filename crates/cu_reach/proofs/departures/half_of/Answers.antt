use Rattle.std.proofs.Common.{◌≤◌, ◌-◌, ◌^◌, arith}
use Rattle.std.proofs.Math.Pow.{pow_mono}
use Rattle.cu_reach.proofs.departures.half_of.Goals as goal

pub returns-clause-few : goal.returns-clause-few
returns-clause-few c =
    let le : c.args.left - 1 ≤ 17 = omega (arith, c.requires.left) in
    let p : 2 ^ (c.args.left - 1) ≤ 2 ^ 17 = pow_mono le in
    omega (arith, p)
