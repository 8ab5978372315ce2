use Rattle.std.proofs.Common.{[], arith, sym}
use Rattle.std.proofs.lemmas.List.{append-nil}
use Rattle.std.proofs.lemmas.Result.{IfOk-weaker}
use Rattle.cu_resettled.specs.ResettlingAll.{edited_all}
use Rattle.cu_session.specs.Steps.Planning.{said_text}
use Rattle.cu_session.proofs.PlannedLines.{said_long, said_short}
use Rattle.cu_session.proofs.editing.plan_line.Goals as goal

pub returns-then-line-clause-said : goal.returns-then-line-clause-said
returns-then-line-clause-said c =
    let h = c.args.held.now in
    let edits = c.args.edits.now.edits in
    ([], said_long (edited_all h.network edits) h.order c.args.line.now (omega (arith, c.if-line.true)), sym (append-nil edits))

pub returns-clause-said : goal.returns-clause-said
returns-clause-said c =
    let h = c.args.held.now in
    let edits = c.args.edits.now.edits in
    IfOk-weaker c.plan_edit.result _ _
    (λ said made. (made.0, said_short h edits c.args.line.now c.trim_return.result.now (said_text said) made.0 (omega (arith, c.if-line.false)) c.trim_return.ensures made.1, made.2))
    c.plan_edit.ensures.said
