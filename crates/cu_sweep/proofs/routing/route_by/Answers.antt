use Rattle.std.proofs.Common.{true, ap, subst, sym}
use Rattle.cu_io.proofs.Appending.{wrote_same}
use Rattle.cu_sweep.specs.Desks.{AreArriving, DeskValue, call_text, routed_text}
use Rattle.cu_sweep.proofs.routing.route_by.Goals as goal

pub write_to-requires-clause-arriving : goal.write_to-requires-clause-arriving
write_to-requires-clause-arriving g c = subst (AreArriving (g.W.Relaxer.hierarchy c.args.walker.now)) (sym (ap (λ (v : DeskValue). v.calls) c.desk.view_is)) c.requires.arriving

pub returns-clause-wrote : goal.returns-clause-wrote
returns-clause-wrote g c =
    let text = call_text (g.P.WalkForm.text c.args.form.now) (g.W.Relaxer.hierarchy c.args.walker.now) in
    wrote_same (ap (λ (v : DeskValue). routed_text text true v.calls) c.desk.view_is) c.write_to.ensures.wrote
