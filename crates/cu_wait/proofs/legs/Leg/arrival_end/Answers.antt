use Rattle.std.proofs.Common.{◌+◌, ◌-◌, arith}
use Rattle.std.proofs.lemmas.Bool.{leb-false}
use Rattle.cu_wait.proofs.LineLaws.{arrival_stays}
use Rattle.cu_wait.proofs.legs.Leg.arrival_end.Goals as goal

pub returns-clause-stays : goal.returns-clause-stays
returns-clause-stays c = λ t le lt.
    let leg = c.args.self in
    let n = leg.until - leg.from in
    let some = c.requires.leg.some in
    let within = c.requires.within in
    let slow = leb-false (leg.last + n) leg.first c.requires.slow in
    let least = c.min.ensures in
    let end = c.rise_end.ensures in
    let same = arrival_stays leg.first leg.last (c.args.second - leg.from) n (t - leg.from) (omega (arith, some)) c.requires.falling (omega (arith, slow)) (omega (arith, le))
    (omega (arith, lt, least)) (omega (arith, lt, least, end, within, le)) in
    omega (arith, same, within, le)
