use Rattle.std.proofs.Common.{ℕ, arith, subst, sym}
use Rattle.cu_wait.specs.declared.legs.Leg.{Leg}
use Rattle.cu_wait.specs.Legs.{hull_at}
use Rattle.cu_wait.specs.Steps.Listed.{IsListed}
use Rattle.cu_wait.proofs.BoundLaws.{end_low}
use Rattle.cu_wait.proofs.ListedLegs.{as_many_bounds, next_of_hull}
use Rattle.cu_wait.proofs.hull.list_legs.Goals as goal

abbrev no_leg : Leg
no_leg = record { from = 0; until = 0; first = 0; last = 0 }

pub bounds-bounds-index : goal.bounds-bounds-index
bounds-bounds-index c =
    let many = as_many_bounds c.args.legs.now c.args.bounds.now c.requires in
    let some = c.legs-test.true in
    omega (arith, many, some)

pub list_leg-requires-clause-bound : goal.list_leg-requires-clause-bound
list_leg-requires-clause-bound c =
    let (begins, next) = next_of_hull c.args.legs.now c.args.bounds.now c.legs.index no_leg 0 c.requires c.legs-test.true c.legs.invariant.0 in
    let end = end_low c.args.legs.now c.requires.tile c.requires.sound in
    let low = next.low in
    (next.onward, omega (arith, low, end))

pub legs-preserved : goal.legs-preserved
legs-preserved c =
    let hull = hull_at c.args.legs.now in
    let (begins, next) = next_of_hull c.args.legs.now c.args.bounds.now c.legs.index no_leg 0 c.requires c.legs-test.true c.legs.invariant.0 in
    let follows = next.next in
    let made = c.in_ok-list_leg.ensures in
    let begun = made.begun in
    let before = subst (λ (n : ℕ). IsListed hull c.legs.listing n) begins c.legs.invariant.2 in (
      next.rest,
      omega (arith, begun, follows),
      subst (λ (n : ℕ). IsListed hull c.list_leg.new.listing n) (sym follows) (made.listed hull next.value before),
    )
