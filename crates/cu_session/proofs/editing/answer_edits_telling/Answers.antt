use Rattle.std.proofs.Common.{List, refl, subst}
use Rattle.std.specs.Prelude.{Ok, Err}
use Rattle.cu_io.specs.Lines.{lines_of}
use Rattle.cu_interval.specs.Hierarchies.{HierarchyValue}
use Rattle.cu_session.specs.declared.editing.Said.{Said}
use Rattle.cu_session.specs.declared.stops.SessionStop.TheVariants as stop
use Rattle.cu_session.specs.AtOnce.{AreSaid}
use Rattle.cu_session.specs.Steps.Planning.{WritesText, said_texts}
use Rattle.cu_session.proofs.PlannedLines.{edits_broken, edits_ended, nothing_made}
use Rattle.cu_session.proofs.SessionLaws.{err_is}
use Rattle.cu_session.proofs.editing.answer_edits_telling.Goals as goal

pub returns-in_err-edits : goal.returns-in_err-edits
returns-in_err-edits g c =
    rw (err_is c.from_residual.result stop.NoMemory c.from_residual.ensures.1)
    (record { ended = tt; stopped = (c.args.editor.now, nothing_made c.args.editor.now c.args.editor.now c.args.text.now (g.K.Sink.state c.args.sink.now) refl) })

pub returns-in_err-file : goal.returns-in_err-file
returns-in_err-file g c =
    rw (err_is c.from_residual-in_err-file.result stop.NoMemory c.from_residual-in_err-file.ensures.1)
    (record { ended = tt; stopped = (c.args.editor.now, nothing_made c.args.editor.now c.args.editor.now c.args.text.now (g.K.Sink.state c.args.sink.now) refl) })

pub returns-in_err-put_all_said : goal.returns-in_err-put_all_said
returns-in_err-put_all_said g c =
    let h = c.args.editor.now in
    let before = g.K.Sink.state c.args.sink.now in
    let now = g.K.Sink.state c.put_all_said.new.sink in
    let edits = c.in_ok-edits.edits.edits in
    let said = c.in_ok-edits.said.items in
    let failed = c.in_err-put_all_said.field-0.0 in
    let planned : AreSaid h.network h.order (lines_of c.args.text.now) (said_texts said) edits =
    subst (λ (v : HierarchyValue). AreSaid v.network v.order (lines_of c.args.text.now) (said_texts said) edits) c.held.ensures c.in_ok-edits.ensures.said in
    let wrote = subst (λ (xs : List Said). WritesText (Err failed) (said_texts xs) before now) c.deref.ensures.value c.in_err-put_all_said.ensures.wrote in
    rw (err_is c.from_residual-in_err-put_all_said.result stop.Sink c.from_residual-in_err-put_all_said.ensures.1)
    (record { ended = tt; stopped = (c.in_ok-file.file, edits_broken h c.in_ok-file.file c.args.text.now edits said planned c.in_ok-file.ensures.edited before now failed wrote) })

pub returns : goal.returns
returns g c =
    let h = c.args.editor.now in
    let before = g.K.Sink.state c.args.sink.now in
    let now = g.K.Sink.state c.put_all_said.new.sink in
    let edits = c.in_ok-edits.edits.edits in
    let said = c.in_ok-edits.said.items in
    let planned : AreSaid h.network h.order (lines_of c.args.text.now) (said_texts said) edits =
    subst (λ (v : HierarchyValue). AreSaid v.network v.order (lines_of c.args.text.now) (said_texts said) edits) c.held.ensures c.in_ok-edits.ensures.said in
    let wrote = subst (λ (xs : List Said). WritesText (Ok tt) (said_texts xs) before now) c.deref.ensures.value c.in_ok-put_all_said.ensures.wrote in
    record { ended = edits_ended h c.in_ok-file.file c.args.text.now edits said planned c.in_ok-file.ensures.edited before now wrote; stopped = tt }
