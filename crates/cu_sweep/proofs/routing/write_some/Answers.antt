use Rattle.std.proofs.Common.{◌≡◌, ◌∙◌, Option, ap, sym}
use Rattle.std.proofs.lemmas.List.{append-nil}
use Rattle.cu_io.proofs.Appending.{wrote_ok, wrote_same}
use Rattle.cu_interval.specs.declared.relaxing.Call.{Call}
use Rattle.cu_sweep.specs.Desks.{call_text, routed_text}
use Rattle.cu_sweep.specs.Places.{calls_of_some}
use Rattle.cu_sweep.proofs.routing.write_some.Goals as goal

pub returns-clause-wrote : goal.returns-clause-wrote
returns-clause-wrote g c =
    let text = call_text (g.P.WalkForm.text c.args.form.now) (g.W.Relaxer.hierarchy c.args.walker.now) in
    let call = c.in-Some.call in
    let one : text c.args.first call ≡ routed_text text c.args.first (calls_of_some c.args.call) =
    sym (append-nil (text c.args.first call)) ∙ sym (ap (λ (o : Option Call). routed_text text c.args.first (calls_of_some o)) c.in-Some.is) in
    wrote_ok (wrote_same one c.in_ok-write_call.ensures.wrote)
