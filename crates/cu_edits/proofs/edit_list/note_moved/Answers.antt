use Rattle.std.proofs.Common.{arith, get_or, length, subst, sym}
use Rattle.std.proofs.lemmas.Option.{slice_get-get_or}
use Rattle.cu_edits.specs.Steps.Adding.{AreMoved, IsInside, assigned_by}
use Rattle.cu_edits.proofs.DrivenRoads.{moved_again, moved_more}
use Rattle.cu_edits.proofs.edit_list.note_moved.Goals as goal

pub returns-in_ok-push-clause-moved : goal.returns-in_ok-push-clause-moved
returns-in_ok-push-clause-moved c =
    let (profiles, inside) = c.requires.inside in
    let both = subst (IsInside (length c.args.assigned.now) profiles) c.in-Assign.is inside in
    subst (AreMoved (assigned_by c.args.assigned.now c.args.edit.now)) (sym c.in_ok-push.ensures.items)
    (moved_more c.args.assigned.now c.args.moved.now.items c.args.edit.now c.in-Assign.arc c.in-Assign.profile c.in-Assign.is both.0 c.requires.moved)

pub returns-else-assigned-arc-eq0-clause-moved : goal.returns-else-assigned-arc-eq0-clause-moved
returns-else-assigned-arc-eq0-clause-moved c =
    let (profiles, inside) = c.requires.inside in
    let both = subst (IsInside (length c.args.assigned.now) profiles) c.in-Assign.is inside in
    moved_again c.args.assigned.now c.args.moved.now.items c.args.edit.now c.in-Assign.arc c.in-Assign.profile (get_or c.args.assigned.now c.in-Assign.arc 0) c.in-Assign.is c.requires.moved
    (slice_get-get_or c.args.assigned.now c.in-Assign.arc 0 both.0) (λ zero. let not = c.if-assigned-arc-eq0.false in omega (arith, zero, not))
