use Rattle.std.proofs.Common.{◌∙◌, length, sym}
use Rattle.std.proofs.lemmas.Bool.{eqb-true}
use Rattle.cu_session.proofs.PlannedLines.{no_bytes, planning_all, planning_more, planning_none}
use Rattle.cu_session.proofs.editing.plan_edits.Goals as goal

pub lines-init : goal.lines-init
lines-init g c = planning_none c.args.held.now c.args.text.now c.new-said.result.items c.in_ok-edits.edits c.new-said.ensures.items c.in_ok-edits.ensures.fits c.in_ok-edits.ensures.none

pub plan_line-requires : goal.plan_line-requires
plan_line-requires g c = record { edits = c.lines.invariant.fits }

pub lines-preserved : goal.lines-preserved
lines-preserved g c =
    let (made, is, more) = c.in_ok-plan_line.ensures.said in
    planning_more c.args.held.now c.args.text.now c.lines.rest.now c.lines.said.items c.lines.edits c.lines.invariant c.cut_line.result.0.now c.cut_line.result.1.now
    c.cut_line.ensures.lines c.in_ok-plan_line.field-0 made is c.plan_line.new.edits more c.plan_line.ensures.fits c.push.new.self.items c.in_ok-push.ensures.items

pub returns-clause-said : goal.returns-clause-said
returns-clause-said g c =
    planning_all c.args.held.now c.args.text.now c.lines.rest.now c.lines.said.items c.lines.edits c.lines.invariant
    (no_bytes c.lines.rest.now (eqb-true (length c.lines.rest.now) 0 (sym c.is_empty.ensures ∙ c.lines-test.false)))
