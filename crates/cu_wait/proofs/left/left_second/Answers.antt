use Rattle.std.proofs.Common.{◌≡◌, ◌+◌, ◌-◌, ◌*◌, ◌/◌, ◌%◌, ℕ, ap, arith, subst}
use Rattle.std.proofs.lemmas.Nat.{div-add-mod', mod_below}
use Rattle.cu_model.specs.Days.{day}
use Rattle.cu_wait.specs.LeftSeconds.{IsLeft}
use Rattle.cu_wait.specs.Measured.{raw_arrival}
use Rattle.cu_wait.specs.Steps.LeftLegs.{IsBestUntil}
use Rattle.cu_wait.proofs.HullLaws.{raw_days}
use Rattle.cu_wait.proofs.LeftLaws.{left_is_at, left_later, left_of_days, left_one, left_soon}
use Rattle.cu_wait.proofs.left.left_second.Goals as goal
use Rattle.cu_wait.proofs.left.left_second.Goals.{After-from-3}

-- one leaves as on the first day, so many days later
is_left : (c : After-from-3) → IsLeft (raw_arrival c.args.points.now) c.args.second (c.args.second - c.from-2.result + c.from-3.result)
is_left c =
    let f = raw_arrival c.args.points.now in
    let second = c.args.second in
    let days = second / day in
    let start = second % day in
    let best = c.best_from-best.result in
    let from = c.from.ensures in
    let two = c.from-2.ensures in
    let three = c.from-3.ensures in
    let same : second % c.from.result ≡ start = ap (λ (n : ℕ). second % n) from in
    let found = subst (λ (n : ℕ). IsBestUntil f n (2 * day) best) same c.best_from-best.ensures in
    let parts = div-add-mod' second day in
    let left = left_later f (raw_days c.args.points.now) days start best.second (left_of_days f (raw_days c.args.points.now) start best (mod_below second day (omega arith)) found) in
    let e : days * day + best.second ≡ second - c.from-2.result + c.from-3.result = omega (arith, parts, same, two, three) in
    subst (IsLeft f second) e (subst (λ (n : ℕ). IsLeft f n (days * day + best.second)) parts left)

pub returns-clause-left : goal.returns-clause-left
returns-clause-left c = is_left (goal.at.returns-clause-left c).After-from-3

pub returns-clause-soon : goal.returns-clause-soon
returns-clause-soon c = left_soon (raw_arrival c.args.points.now) (raw_days c.args.points.now) _ _ (is_left (goal.at.returns-clause-soon c).After-from-3)

pub returns-clause-at : goal.returns-clause-at
returns-clause-at c =
    let f = raw_arrival c.args.points.now in
    left_one f c.args.second _ _ (left_is_at f (raw_days c.args.points.now) c.args.second) (is_left (goal.at.returns-clause-at c).After-from-3)
