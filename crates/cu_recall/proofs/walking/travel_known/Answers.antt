use Rattle.std.proofs.Common.{◌-◌, ◌∙◌, ℕ, arith, subst, sym}
use Rattle.cu_recall.specs.Steps.Walks.{HoldsTravel}
use Rattle.cu_recall.proofs.ListEnds.{list_inside}
use Rattle.cu_recall.proofs.StoredTravels.{stored_onward, stored_travel}
use Rattle.cu_recall.proofs.walking.travel_known.Goals as goal

pub value-requires-clause-list : goal.value-requires-clause-list
value-requires-clause-list c =
    let (u, v, is, some, early) = c.requires.asked in
    let inside = list_inside c.args.ground.now.view.now c.args.spot.next.list u v is in
    omega (arith, inside, c.requires.ground.size)

pub overflow_sub-result : goal.overflow_sub-result
overflow_sub-result c =
    let (u, v, is, some, early) = c.requires.asked in
    let later = stored_onward c.args.ground.now.view.now c.args.ground.now.store.now.known c.requires.ground.knows c.args.spot.next.list c.args.spot.second c.in-At.arrival
    (sym c.value.ensures ∙ c.in-At.is) early in
    omega (arith, later, c.from.ensures)

pub returns-in-At : goal.returns-in-At
returns-in-At c =
    let h = c.args.ground.now.view.now in
    let list = c.args.spot.next.list in
    let second = c.args.spot.second in
    let (u, v, is, some, early) = c.requires.asked in
    subst (λ (n : ℕ). HoldsTravel h list second (c.in-At.arrival - n)) (sym c.from.ensures)
    (stored_travel h c.args.ground.now.store.now.known c.requires.ground.knows list second c.in-At.arrival (sym c.value.ensures ∙ c.in-At.is) early)
