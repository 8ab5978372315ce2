use Rattle.std.proofs.Common.{◌≡◌, ◌+◌, ◌-◌, ◌∙◌, false, ℕ, arith, subst, sym}
use Rattle.std.proofs.lemmas.Bool.{leb-false}
use Rattle.cu_wait.specs.Legs.{falls, leg_arrival}
use Rattle.cu_wait.specs.Steps.LeftLegs.{IsBestUntil}
use Rattle.cu_wait.proofs.LeftLegLaws.{best_rising, leg_near}
use Rattle.cu_wait.proofs.left.best_in.Goals as goal

pub returns-clause-best : goal.returns-clause-best
returns-clause-best c =
    let leg = c.args.leg in
    let within = c.requires.within in
    let rising : falls leg ≡ false = sym c.falls.ensures ∙ c.if-falls.false in
    let slow = leb-false (leg.last + (leg.until - leg.from)) leg.first rising in
    let best = best_rising leg c.args.second (omega (arith, slow)) within.0 within.1 in
    subst (λ (n : ℕ). IsBestUntil (leg_arrival leg) c.args.second leg.until (record { second = c.args.second; arrival = n })) (sym c.arrival.ensures) best

pub returns-clause-limit : goal.returns-clause-limit
returns-clause-limit c =
    let leg = c.args.leg in
    let within = c.requires.within in
    let sound = c.requires.leg in
    let near = leg_near leg c.args.second sound within.0 within.1 in
    let at = c.arrival.ensures in
    let inside = sound.inside in
    omega (arith, near, at, inside, within.1)
