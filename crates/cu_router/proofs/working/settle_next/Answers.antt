use Rattle.std.proofs.Common.{◌∷◌, ◌∙◌, [], ap, subst, sym}
use Rattle.std.specs.Prelude.{IfSome}
use Rattle.cu_bounds.specs.Near.{AreNear}
use Rattle.cu_edits.specs.Customized.{AreCustomized}
use Rattle.cu_edits.specs.InWork.{InWorkValue}
use Rattle.cu_edits.specs.Paused.{FitsPaused}
use Rattle.cu_edits.specs.Settling.{SettlingValue}
use Rattle.cu_interval.specs.Hierarchies.{HierarchyValue}
use Rattle.cu_recall.specs.Spans.{Knows}
use Rattle.cu_router.proofs.WorkingLaws.{busy_of}
use Rattle.cu_router.proofs.working.settle_next.Goals as goal

pub new-ways-requires-clause-knows : goal.new-ways-requires-clause-knows
new-ways-requires-clause-knows c = subst (λ (h : HierarchyValue). Knows h c.args.rows.now) (sym c.view-view.ensures.same) c.requires.knows

pub resume-settler-requires-clause-customized : goal.resume-settler-requires-clause-customized
resume-settler-requires-clause-customized c =
    let same = c.new-ways.ensures.view ∙ c.view-view.ensures.same in
    subst (λ (h : HierarchyValue). AreCustomized h c.ground_of-ground.result.customized.now) (sym same) c.ground_of-ground.ensures.customized

pub resume-settler-requires-clause-bounds : goal.resume-settler-requires-clause-bounds
resume-settler-requires-clause-bounds c =
    let same = c.new-ways.ensures.view ∙ c.view-view.ensures.same in
    subst (λ (h : HierarchyValue). IfSome c.ground_of-ground.result.bounds (λ bounds. AreNear h bounds.now)) (sym same) c.ground_of-ground.ensures.bounds

pub resume-settler-requires-clause-fits : goal.resume-settler-requires-clause-fits
resume-settler-requires-clause-fits c =
    let same = c.new-ways.ensures.view ∙ c.view-view.ensures.same in
    subst (λ (h : HierarchyValue). FitsPaused h (c.args.busy.edit ∷ []) c.args.busy.settler) (sym same) c.requires.fits.fits

pub returns-clause-fits : goal.returns-clause-fits
returns-clause-fits c =
    let same = c.new-ways.ensures.view ∙ c.view-view.ensures.same in
    let parts = c.into_parts-papers.ensures in
    let left = c.step_if_left-left.ensures in
    let begun = c.resume-work.ensures in
    let settler = c.resume-settler.ensures in
    let before = ap (λ (w : InWorkValue). w.state.before) (sym parts.same) ∙ left.before ∙ ap (λ (w : InWorkValue). w.state.before) begun ∙ ap (λ (s : SettlingValue). s.before) settler ∙ same in
    let edit = ap (λ (w : InWorkValue). w.state.edit) (sym parts.same) ∙ left.edit ∙ ap (λ (w : InWorkValue). w.state.edit) begun ∙ ap (λ (s : SettlingValue). s.edit) settler in
    busy_of c.args.held.now (record { edit = c.args.busy.edit; papers = c.into_parts-papers.result.0; settler = c.pause-settler.result }) c.into_parts-papers.result.1
    before edit parts.work parts.lists c.pause-settler.ensures.settled c.pause-settler.ensures.fits
