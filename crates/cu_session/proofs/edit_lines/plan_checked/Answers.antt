use Rattle.std.proofs.Common.{◌∷◌, ◌++◌, ◌∙◌, List, [], decimal, subst, sym}
use Rattle.std.specs.Prelude.{codes}
use Rattle.cu_session.proofs.PlannedLines.{counted_behind, said_done}
use Rattle.cu_edits.proofs.EditedLists.{arcs_all, profiles_all}
use Rattle.cu_model.specs.Networks.{IsNetwork}
use Rattle.cu_model.specs.declared.roads.Edit.{Edit}
use Rattle.cu_resettled.specs.ResettlingAll.{edited_all}
use Rattle.cu_session.proofs.edit_lines.plan_checked.Goals as goal

pub add_edit-requires-clause-range : goal.add_edit-requires-clause-range
add_edit-requires-clause-range c =
    let h = c.args.held.now in
    let edits = c.args.edits.now.edits in
    c.in_ok-edit.ensures.in_range (edited_all h.network edits) (arcs_all h.network edits ∙ sym c.requires.arcs) (profiles_all h.network edits ∙ sym c.requires.profiles)

pub returns-clause-said : goal.returns-clause-said
returns-clause-said c =
    let h = c.args.held.now in
    let edits = c.args.edits.now.edits in
    let edit = c.in_ok-edit.edit in
    let range = c.in_ok-edit.ensures.in_range (edited_all h.network edits) (arcs_all h.network edits ∙ sym c.requires.arcs) (profiles_all h.network edits ∙ sym c.requires.profiles) in
    let network = subst (λ (es : List Edit). IsNetwork (edited_all h.network es)) c.in_ok-count.ensures.made c.in_ok-count.ensures.sound in
    let counted = counted_behind h c.requires.sound edits edit c.in_ok-count.count c.in_ok-count.ensures.count range network in
    (edit ∷ [], said_done (edited_all h.network edits) h.order edit (codes "done " ++ decimal c.in_ok-count.count) _ c.in_ok-edit.ensures.edit counted, c.in_ok-count.ensures.made)
