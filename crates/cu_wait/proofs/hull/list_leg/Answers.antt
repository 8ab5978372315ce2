use Rattle.std.proofs.Common.{◌∙◌, ◌≤◌, ◌+◌, ◌-◌, ℕ, arith, subst}
use Rattle.cu_wait.specs.Steps.Listed.{IsListed, course_value}
use Rattle.cu_wait.proofs.ListedLegs.{stretch_onward}
use Rattle.cu_wait.proofs.hull.list_leg.Goals as goal
use Rattle.cu_wait.proofs.hull.list_leg.Goals.{After-hull_from-stretch}

-- the stretch doesn't arrive before it leaves
onward : (c : After-hull_from-stretch) → (c.stretches.second ≤ c.hull_from-stretch.result.arrival)
    × (c.hull_from-stretch.result.end ≤ course_value c.hull_from-stretch.result.course c.stretches.second c.hull_from-stretch.result.arrival (c.hull_from-stretch.result.end - 1) + 1)
onward c =
    let found = c.hull_from-stretch in
    stretch_onward c.args.leg c.args.bound c.stretches.second found.result.course found.result.arrival found.result.end c.stretches.invariant.0 found.ensures.later found.ensures.inside
    c.requires.bound.0 found.ensures.kept

pub add-requires-clause-onward : goal.add-requires-clause-onward
add-requires-clause-onward c =
    let on = onward (goal.at.add-requires-clause-onward c).After-hull_from-stretch in
    let limit = c.hull_from-stretch.ensures.limit in
    let bound = c.requires.bound in
    (on.0, omega (arith, limit, bound.1))

pub add-requires-clause-last : goal.add-requires-clause-last
add-requires-clause-last c = (onward (goal.at.add-requires-clause-last c).After-hull_from-stretch).1

pub stretches-preserved : goal.stretches-preserved
stretches-preserved c =
    let inv = c.stretches.invariant in
    let found = c.hull_from-stretch.ensures in
    let later = found.later in
    let inside = found.inside in (
      omega (arith, inv.0, later),
      inside,
      c.in_ok-add.ensures.begun,
      λ f value listed. c.in_ok-add.ensures.listed f
          (λ t le lt. value t (omega (arith, inv.0, le)) (omega (arith, lt, inside)) ∙ found.kept t le lt)
          (inv.3 f value listed),
    )

pub returns-clause-listed : goal.returns-clause-listed
returns-clause-listed c = λ f value listed.
    let inv = c.stretches.invariant in
    let over = c.stretches-test.false in
    subst (λ (n : ℕ). IsListed f c.stretches.listing n) (omega (arith, inv.1, over)) (inv.3 f value listed)
