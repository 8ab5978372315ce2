use Rattle.std.proofs.Common.{◌∷◌, ◌∙◌, [], ap, subst, sym}
use Rattle.std.specs.Prelude.{IfSome}
use Rattle.cu_bounds.specs.Near.{AreNear}
use Rattle.cu_edits.specs.Customized.{AreCustomized}
use Rattle.cu_edits.specs.InWork.{InWorkValue}
use Rattle.cu_edits.specs.Settling.{SettlingValue}
use Rattle.cu_interval.specs.Hierarchies.{HierarchyValue}
use Rattle.cu_resettled.specs.ResettlingAll.{NumbersTouchedBySome}
use Rattle.cu_resettled.proofs.TouchedBySome.{numbers_of_one}
use Rattle.cu_router.proofs.WorkingLaws.{busy_of}
use Rattle.cu_router.proofs.working.begin_held.Goals as goal

pub over-requires-clause-customized : goal.over-requires-clause-customized
over-requires-clause-customized c =
    subst (λ (h : HierarchyValue). AreCustomized h c.ground_of-ground.result.customized.now) (sym c.view-view.ensures.same) c.ground_of-ground.ensures.customized

pub over-requires-clause-bounds : goal.over-requires-clause-bounds
over-requires-clause-bounds c =
    subst (λ (h : HierarchyValue). IfSome c.ground_of-ground.result.bounds (λ bounds. AreNear h bounds.now)) (sym c.view-view.ensures.same) c.ground_of-ground.ensures.bounds

pub begin-requires-clause-touched : goal.begin-requires-clause-touched
begin-requires-clause-touched c =
    let held = c.args.held.now in
    let edit = c.args.edit in
    let edges = c.args.edges.items in
    let one = (numbers_of_one held edit edges).0 c.requires.touched in
    subst (λ (s : SettlingValue). NumbersTouchedBySome s.before s.edit edges) (sym (c.make_room.ensures.same ∙ c.in_ok-settler.ensures))
    (subst (λ (h : HierarchyValue). NumbersTouchedBySome h (edit ∷ []) edges) (sym c.view-view.ensures.same) one)

pub returns-clause-fits : goal.returns-clause-fits
returns-clause-fits c =
    let parts = c.into_parts-papers.ensures in
    let begun = c.in_ok-work.ensures in
    let room = c.make_room.ensures.same in
    let over = c.in_ok-settler.ensures in
    let held = c.view-view.ensures.same in
    let before = ap (λ (w : InWorkValue). w.state.before) (sym parts.same ∙ begun) ∙ ap (λ (s : SettlingValue). s.before) (room ∙ over) ∙ held in
    let edit = ap (λ (w : InWorkValue). w.state.edit) (sym parts.same ∙ begun) ∙ ap (λ (s : SettlingValue). s.edit) (room ∙ over) in
    busy_of c.args.held.now (record { edit = c.args.edit; papers = c.into_parts-papers.result.0; settler = c.pause-settler.result }) c.into_parts-papers.result.1
    before edit parts.work parts.lists c.pause-settler.ensures.settled c.pause-settler.ensures.fits
