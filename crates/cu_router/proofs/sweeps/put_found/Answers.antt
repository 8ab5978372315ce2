use Rattle.std.proofs.Common.{◌∙◌, subst, sym}
use Rattle.cu_io.proofs.Appending.{wrote_same}
use Rattle.cu_drive.specs.RoadTexts.{arrival_text}
use Rattle.cu_sweep.specs.declared.finding.Found.{Found}
use Rattle.cu_sweep.specs.declared.finding.Found.TheVariants.{NoWalk, Long}
use Rattle.cu_sweep.specs.Desks.{HoldsFound}
use Rattle.cu_router.proofs.RouteLaws.{arrive_is, found_chained, found_is}
use Rattle.cu_router.proofs.sweeps.put_found.Goals as goal

pub put_arrival-requires-clause-arriving : goal.put_arrival-requires-clause-arriving
put_arrival-requires-clause-arriving g c =
    let h = g.W.Relaxer.hierarchy c.args.walker.now in
    let asked = c.args.question in
    let holds = subst (λ (f : Found). HoldsFound h asked.from asked.to asked.second f c.args.desk.now) c.in-Arrive.is c.requires.holds in
    (found_chained h c.requires.sound asked.from asked.to asked.second c.in-Arrive.arrival c.args.desk.now holds).0

pub returns-in-Arrive-clause-wrote : goal.returns-in-Arrive-clause-wrote
returns-in-Arrive-clause-wrote g c =
    let h = g.W.Relaxer.hierarchy c.args.walker.now in
    let asked = c.args.question in
    let says = arrival_text (g.P.WalkForm.word c.args.form.now) (g.P.WalkForm.text c.args.form.now) h.network asked.second in
    let holds = subst (λ (f : Found). HoldsFound h asked.from asked.to asked.second f c.args.desk.now) c.in-Arrive.is c.requires.holds in
    let chained = (found_chained h c.requires.sound asked.from asked.to asked.second c.in-Arrive.arrival c.args.desk.now holds).1 in
    wrote_same (arrive_is says h asked.from asked.to asked.second c.in-Arrive.arrival c.args.desk.now (sym c.in-Arrive.is ∙ c.requires.found) holds)
    (c.put_arrival.ensures.wrote asked.second chained)

pub returns-in-NoWalk-clause-wrote : goal.returns-in-NoWalk-clause-wrote
returns-in-NoWalk-clause-wrote g c =
    let h = g.W.Relaxer.hierarchy c.args.walker.now in
    let asked = c.args.question in
    let says = arrival_text (g.P.WalkForm.word c.args.form.now) (g.P.WalkForm.text c.args.form.now) h.network asked.second in
    wrote_same (found_is says h asked.from asked.to asked.second NoWalk (sym c.in-NoWalk.is ∙ c.requires.found)) c.put_all.ensures.wrote

pub returns-in-Long-clause-wrote : goal.returns-in-Long-clause-wrote
returns-in-Long-clause-wrote g c =
    let h = g.W.Relaxer.hierarchy c.args.walker.now in
    let asked = c.args.question in
    let says = arrival_text (g.P.WalkForm.word c.args.form.now) (g.P.WalkForm.text c.args.form.now) h.network asked.second in
    wrote_same (found_is says h asked.from asked.to asked.second (Long c.in-Long.edge c.in-Long.dir c.in-Long.second) (sym c.in-Long.is ∙ c.requires.found))
    c.put_damage.ensures.wrote
