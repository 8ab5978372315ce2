use Rattle.std.proofs.Common.{◌∙◌, arith, sym}
use Rattle.cu_wait.proofs.LegLaws.{rising_above}
use Rattle.cu_wait.proofs.legs.Leg.hull_from.Goals as goal

pub returns-then-arrival-bound-clause-kept : goal.returns-then-arrival-bound-clause-kept
returns-then-arrival-bound-clause-kept c = λ t le lt.
    let within = c.requires.within in
    let rising = sym c.falls.ensures ∙ c.if-falls.false in
    let up = rising_above c.args.self c.args.second t rising within.0 le lt in
    let line = c.travel-travel.ensures.line in
    let above = c.if-arrival-bound.true in
    omega (arith, up, line, above)
