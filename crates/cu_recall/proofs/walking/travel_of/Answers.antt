use Rattle.std.proofs.Common.{subst, sym}
use Rattle.cu_recall.specs.declared.pending.Asked.{Asked}
use Rattle.cu_recall.specs.Windows.{HoldsDriven}
use Rattle.cu_recall.specs.Steps.Looks.{IsMetAt}
use Rattle.cu_recall.proofs.RoadByRoad.{travel_driven}
use Rattle.cu_recall.proofs.walking.travel_of.Goals as goal

pub returns-in-Some-clause-travel : goal.returns-in-Some-clause-travel
returns-in-Some-clause-travel c =
    let h = c.args.view.now in
    let driven = subst (λ (asked : Asked). HoldsDriven h asked.list asked.second c.in-Some.driven) c.asked_next-asked.ensures (c.in-Some.ensures.holds h c.requires.knows) in
    travel_driven h c.args.spot.next.list c.args.spot.second c.in-Some.driven driven

pub drive_met-requires-clause-met : goal.drive_met-requires-clause-met
drive_met-requires-clause-met c = subst (λ (asked : Asked). IsMetAt c.args.view.now asked c.args.met) (sym c.asked_next-asked.ensures) c.requires.met

pub returns-clause-travel : goal.returns-clause-travel
returns-clause-travel c =
    let h = c.args.view.now in
    let driven = subst (λ (asked : Asked). HoldsDriven h asked.list asked.second c.drive_met.result) c.asked_next-asked.ensures c.drive_met.ensures.holds in
    travel_driven h c.args.spot.next.list c.args.spot.second c.drive_met.result driven
