use Rattle.std.proofs.Common.{◌≡◌, ◌+◌, ◌*◌, ◌∙◌, ℕ, length, ap, arith, subst, sym}
use Rattle.cu_model.specs.Days.{day}
use Rattle.cu_wait.specs.Measured.{raw_arrival}
use Rattle.cu_wait.specs.Steps.LeftLegs.{IsBestUntil, begins}
use Rattle.cu_wait.proofs.HullLaws.{raw_days}
use Rattle.cu_wait.proofs.LeftLegLaws.{begins_at_end, best_stays}
use Rattle.cu_wait.proofs.left.best_behind.Goals as goal
use Rattle.cu_wait.proofs.left.best_behind.Goals.{After-leg_at-leg}

-- the best before the leg that is next
before_leg : (c : After-leg_at-leg) (second : ℕ) → IsBestUntil (raw_arrival c.args.points.now) second (c.args.days * day + begins c.args.points.now c.args.index) c.args.best
    → IsBestUntil (raw_arrival c.args.points.now) second (c.args.days * day + c.leg_at-leg.result.from) c.legs.best
before_leg c second is =
    subst (λ (n : ℕ). IsBestUntil (raw_arrival c.args.points.now) second (c.args.days * day + n) c.legs.best) (sym c.leg_at-leg.ensures.from) (c.legs.invariant.1 second is)

pub returns-then-best-later : goal.returns-then-best-later
returns-then-best-later c = λ second is.
    let f = raw_arrival c.args.points.now in
    let leg = c.leg_at-leg.result in
    let sound = c.leg_at-leg.ensures.sound in
    let inside = sound.inside in
    let some = sound.some in
    let early = c.if-best-later.true in
    best_stays f second (c.args.days * day + leg.from) (c.args.days * day + day) c.legs.best (λ s. omega arith) (omega (arith, early)) (omega (arith, inside, some))
    (before_leg (goal.at.returns-then-best-later c).After-leg_at-leg second is)

pub legs-preserved : goal.legs-preserved
legs-preserved c =
    let points = c.args.points.now in
    let leg = c.leg_at-leg.result in
    let found = c.leg_at-leg.ensures in
    let inside = found.sound.inside in
    let some = c.legs-test.true in (
      omega (arith, some),
      λ second is. subst (λ (n : ℕ). IsBestUntil (raw_arrival points) second (c.args.days * day + n) c.better_of-best.result) found.until
          (c.better_of-best.ensures (raw_arrival points) second
          (λ s le lt. raw_days points c.args.days s (omega (arith, lt, inside)) ∙ ap (λ (x : ℕ). c.args.days * day + x) (found.arrives s le lt))
          (before_leg (goal.at.legs-preserved c).After-leg_at-leg second is)),
    )

pub returns : goal.returns
returns c = λ second is.
    let points = c.args.points.now in
    let over = c.legs-test.false in
    let few = c.legs.invariant.0 in
    let e : c.legs.next ≡ length points = omega (arith, over, few) in
    subst (λ (n : ℕ). IsBestUntil (raw_arrival points) second (c.args.days * day + n) c.legs.best) (ap (begins points) e ∙ begins_at_end points) (c.legs.invariant.1 second is)
