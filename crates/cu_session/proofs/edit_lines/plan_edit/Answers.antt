use Rattle.std.proofs.Common.{◌≡◌, ◌∙◌, [], ℕ, Result, Err, length, ap, sym}
use Rattle.std.proofs.lemmas.List.{append-nil}
use Rattle.cu_model.specs.declared.roads.Edit.{Edit}
use Rattle.cu_interval.specs.Hierarchies.{HierarchyValue}
use Rattle.cu_resettled.specs.ResettlingAll.{edited_all}
use Rattle.cu_script.specs.declared.lines.EditRefusal.{EditRefusal}
use Rattle.cu_script.specs.EditLines.{edit_of}
use Rattle.cu_session.proofs.PlannedLines.{said_refused}
use Rattle.cu_session.proofs.edit_lines.plan_edit.Goals as goal

pub returns-in-Err-clause-said : goal.returns-in-Err-clause-said
returns-in-Err-clause-said c =
    let h = c.args.held.now in
    let arcs : c.arcs-arcs.result ≡ length h.network.arcs = c.arcs-arcs.ensures.count ∙ ap (λ (v : HierarchyValue). length v.network.arcs) c.view-view.ensures.same in
    let profiles : c.profiles-profiles.result ≡ length h.network.profiles =
    c.profiles-profiles.ensures.count ∙ ap (λ (v : HierarchyValue). length v.network.profiles) c.view-view.ensures.same in
    let of : ℕ → ℕ → Result Edit EditRefusal = λ many kinds. edit_of many kinds c.args.line.now in
    let is : of (length h.network.arcs) (length h.network.profiles) ≡ Err c.in-Err.refusal =
    ap (λ many. of many (length h.network.profiles)) (sym arcs) ∙ ap (of c.arcs-arcs.result) (sym profiles) ∙ c.in-Err.ensures.refused in
    ([], said_refused (edited_all h.network c.args.edits.now.edits) h.order c.in-Err.refusal _ is, sym (append-nil c.args.edits.now.edits))
