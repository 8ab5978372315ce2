use Rattle.std.proofs.Common.{Option, sym, subst}
use Rattle.std.specs.Prelude.{IfSome}
use Rattle.cu_sweep.specs.declared.finding.Found.{Found}
use Rattle.cu_sweep.specs.Desks.{AreArriving, HoldsFound}
use Rattle.tests_sweeps.proofs.sweep.is_right.Goals as goal

pub writes-requires-clause-arriving : goal.writes-requires-clause-arriving
writes-requires-clause-arriving c =
    let h = c.args.swept.view.now in
    let desk = c.ask.new.desk in
    let row = c.args.row in
    let some = subst (λ (o : Option Found). IfSome o (λ found. HoldsFound h row.from row.to row.second found desk)) c.in-Some.is c.in_ok-asked.ensures.holds in
    let (label, is, calls, arriving, unturned) = subst (λ (found : Found). HoldsFound h row.from row.to row.second found desk) c.in-Arrive.is some in
    subst (AreArriving h) (sym calls) arriving
