use Rattle.std.proofs.Common.{◌≡◌, ◌+◌, ◌*◌, ◌∙◌, ℕ, arith, subst}
use Rattle.cu_model.specs.Days.{day}
use Rattle.cu_wait.specs.Legs.{leg_arrival}
use Rattle.cu_wait.specs.Measured.{raw_arrival}
use Rattle.cu_wait.specs.Steps.LeftLegs.{IsBestUntil, begins}
use Rattle.cu_wait.proofs.LeftLegLaws.{best_alike, first_begins}
use Rattle.cu_wait.proofs.left.best_from.Goals as goal

pub returns : goal.returns
returns c =
    let points = c.args.points.now in
    let f = raw_arrival points in
    let start = c.args.start in
    let leg = c.leg_at.result in
    let found = c.leg_at.ensures in
    let from = found.from in
    let begun = c.index_of-index.ensures.begun in
    let here = best_alike (leg_arrival leg) f start leg.until c.best_in-best.result (λ s le lt. found.arrives s (omega (arith, le, from, begun)) lt) c.best_in-best.ensures.best in
    let e : leg.until ≡ 0 * day + begins points (c.index_of-index.result + 1) = found.until ∙ omega arith in
    let today = c.best_behind-best.ensures start (subst (λ (n : ℕ). IsBestUntil f start n c.best_in-best.result) e here) in
    let first = first_begins points c.requires.measured in
    let next : 0 * day + day ≡ 1 * day + begins points 0 = omega (arith, first) in
    c.best_behind.ensures start (subst (λ (n : ℕ). IsBestUntil f start n c.best_behind-best.result) next today)
