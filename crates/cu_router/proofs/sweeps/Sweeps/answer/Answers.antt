use Rattle.std.proofs.Common.{List, subst, sym}
use Rattle.std.specs.Prelude.{Option}
use Rattle.cu_io.specs.Sinks.{Wrote}
use Rattle.cu_drive.specs.RoadTexts.{arrival_text}
use Rattle.cu_interval.specs.declared.relaxing.Call.{Call}
use Rattle.cu_interval.specs.Hierarchies.{HierarchyValue}
use Rattle.cu_router.specs.Steps.Asking.{AddsQuery}
use Rattle.cu_router.specs.Swept.{swept_between}
use Rattle.cu_router.proofs.sweeps.Sweeps.answer.Goals as goal

pub returns-clause-wrote : goal.returns-clause-wrote
returns-clause-wrote g c =
    let asked = c.args.question in
    subst (λ (h : HierarchyValue). Wrote (g.K.Sink.state c.args.sink.now) (g.K.Sink.state c.put_found.new.sink) c.put_found.result
    (swept_between (arrival_text (g.P.WalkForm.word c.args.form.now) (g.P.WalkForm.text c.args.form.now) h.network asked.second) h asked.from asked.to asked.second))
    c.find-found.ensures.stays c.put_found.ensures.wrote

pub returns-clause-told : goal.returns-clause-told
returns-clause-told g c =
    let asked = c.args.question in
    subst (λ (calls : Option (List Call)). AddsQuery (g.W.Relaxer.hierarchy c.args.walker.now) asked.from asked.to asked.second (g.W.Relaxer.calls c.args.walker.now) calls)
    (sym c.put_found.ensures.quiet) c.find-found.ensures.told
