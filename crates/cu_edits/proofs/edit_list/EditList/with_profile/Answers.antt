use Rattle.std.proofs.Common.{◌≡◌, ◌<◌, ◌-◌, ◌∙◌, ℕ, suc, List, Some, ap, length, arith, subst}
use Rattle.std.specs.Prelude.{slice_get}
use Rattle.cu_edits.specs.EditLists.{EditListValue}
use Rattle.cu_edits.proofs.ListLaws.{road_assigned, road_kept}
use Rattle.cu_edits.proofs.edit_list.EditList.with_profile.Goals as goal

pub returns-then-assigned-eq0 : goal.returns-then-assigned-eq0
returns-then-assigned-eq0 c = λ g fits at.
    let read = c.deref.ensures.value ∙ ap (λ (list : EditListValue). list.assigned) c.self.view_is in
    let there = subst (λ (xs : List ℕ). c.args.arc < length xs → slice_get xs c.args.arc ≡ Some c.assigned_at-assigned.result) read c.assigned_at-assigned.ensures.there in
    road_kept g c.args.self.now fits c.args.arc c.args.road at c.assigned_at-assigned.result there c.if-assigned-eq0.true

pub returns : goal.returns
returns c = λ g fits at.
    let read = c.deref.ensures.value ∙ ap (λ (list : EditListValue). list.assigned) c.self.view_is in
    let there = subst (λ (xs : List ℕ). c.args.arc < length xs → slice_get xs c.args.arc ≡ Some c.assigned_at-assigned.result) read c.assigned_at-assigned.ensures.there in
    let some : c.assigned_at-assigned.result ≡ suc (c.assigned_at-assigned.result - 1) = omega (arith, c.if-assigned-eq0.false) in
    road_assigned g c.args.self.now fits c.args.arc c.args.road at c.assigned_at-assigned.result (c.assigned_at-assigned.result - 1) there some
