use Rattle.std.proofs.Common.{◌+◌, ◌-◌, ◌/◌, ◌≡◌, arith, ap}
use Rattle.cu_wait.specs.Legs.{leg_arrival}
use Rattle.cu_wait.proofs.LeftLegLaws.{leg_falls}
use Rattle.cu_wait.proofs.left.first_as_last.Goals as goal

pub halves-preserved : goal.halves-preserved
halves-preserved c =
    let leg = c.args.leg in
    let inv = c.halves.invariant in
    let more = c.halves-test.true in
    let late = c.if-arrival.false in
    let at = c.arrival.ensures in
    let start = c.requires.within.0 in (
      omega (arith, inv.0),
      omega (arith, more),
      inv.2,
      inv.3,
      λ t le lt.
          let down = leg_falls leg t (c.halves.low + (c.halves.high - c.halves.low) / 2) c.requires.falls (omega (arith, start, le)) (omega (arith, lt)) (omega (arith, more, inv.2)) in
          omega (arith, down, late, at),
    )

pub returns-clause-best : goal.returns-clause-best
returns-clause-best c =
    let leg = c.args.leg in
    let inv = c.halves.invariant in
    let over = c.halves-test.false in
    let start = c.requires.within.0 in
    let same : c.halves.high ≡ c.halves.low = omega (arith, over, inv.1) in
    let here : leg_arrival leg c.halves.high ≡ leg_arrival leg c.halves.low = ap (leg_arrival leg) same in
    let last = leg_falls leg c.halves.low (leg.until - 1) c.requires.falls (omega (arith, start, inv.0)) (omega (arith, inv.1, inv.2)) (omega (arith, inv.2)) in
    let at = c.arrival-arrival.ensures in
    let few = inv.3 in
    record {
      later = inv.0;
      before = omega (arith, inv.1, inv.2);
      arrival = omega (arith, here, last, at, few);
      least = λ s le lt.
          let down = leg_falls leg s (leg.until - 1) c.requires.falls (omega (arith, start, le)) (omega (arith, lt)) (omega (arith, inv.2)) in
          omega (arith, down, at);
      first = inv.4;
    }
