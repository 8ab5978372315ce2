use Rattle.std.proofs.Common.{arith}
use Rattle.cu_wait.proofs.LineLaws.{fall_stays, rise_stays}
use Rattle.cu_wait.proofs.legs.next_change.Goals as goal

pub returns-then-first-last-clause-stays : goal.returns-then-first-last-clause-stays
returns-then-first-last-clause-stays c = λ later le lt.
    let some = c.requires.some in
    let steep = c.if-first-last.true in
    let least = c.min.ensures in
    let end = c.rise_end.ensures in
    rise_stays c.args.first c.args.last c.args.behind c.args.seconds later (omega (arith, some)) (omega (arith, steep)) le (omega (arith, lt, least, end))

pub returns-then-last-first-clause-stays : goal.returns-then-last-first-clause-stays
returns-then-last-first-clause-stays c = λ later le lt.
    let some = c.requires.some in
    let steep = c.if-last-first.true in
    let least = c.min-then-last-first.ensures in
    let end = c.fall_end.ensures in
    fall_stays c.args.first c.args.last c.args.behind c.args.seconds later (omega (arith, some)) (omega (arith, steep)) le (omega (arith, lt, least, end))
