use Rattle.std.proofs.Common.{◌∷◌, ◌∙◌, List, [], ap, refl, subst, sym}
use Rattle.std.specs.Prelude.{IfSome}
use Rattle.cu_bounds.specs.Near.{AreNear}
use Rattle.cu_edits.specs.Customized.{AreCustomized}
use Rattle.cu_edits.specs.Learned.{ArePackedOf}
use Rattle.cu_edits.specs.Paused.{FitsPaused}
use Rattle.cu_edits.specs.Settling.{SettlingValue, settled_so_far}
use Rattle.cu_edits.proofs.SettledAll.{AllSettled}
use Rattle.cu_interval.specs.declared.ways.TouchedEdge.{TouchedEdge}
use Rattle.cu_interval.specs.Hierarchies.{HierarchyValue}
use Rattle.cu_interval.specs.Replacing.{hierarchy_with}
use Rattle.cu_recall.specs.Spans.{Knows}
use Rattle.cu_router.proofs.RoomLaws.{edits_after}
use Rattle.cu_router.proofs.WorkingLaws.{busy_state, ready_all, ready_together}
use Rattle.cu_router.proofs.working.finish.Goals as goal

pub new-ways-requires-clause-knows : goal.new-ways-requires-clause-knows
new-ways-requires-clause-knows c = subst (λ (h : HierarchyValue). Knows h c.args.rows.now) (sym c.view-view.ensures.same) c.requires.knows

pub resume-settler-requires-clause-customized : goal.resume-settler-requires-clause-customized
resume-settler-requires-clause-customized c =
    let same = c.new-ways.ensures.view ∙ c.view-view.ensures.same in
    subst (λ (h : HierarchyValue). AreCustomized h c.ground_of-ground.result.customized.now) (sym same) c.ground_of-ground.ensures.customized

pub resume-settler-requires-clause-bounds : goal.resume-settler-requires-clause-bounds
resume-settler-requires-clause-bounds c =
    let same = c.new-ways.ensures.view ∙ c.view-view.ensures.same in
    subst (λ (h : HierarchyValue). IfSome c.ground_of-ground.result.bounds (λ bounds. AreNear h bounds.now)) (sym same) c.ground_of-ground.ensures.bounds

pub resume-settler-requires-clause-fits : goal.resume-settler-requires-clause-fits
resume-settler-requires-clause-fits c =
    let same = c.new-ways.ensures.view ∙ c.view-view.ensures.same in
    subst (λ (h : HierarchyValue). FitsPaused h (c.args.busy.edit ∷ []) c.args.busy.settler) (sym same) c.requires.fits.fits

pub into_learned-requires : goal.into_learned-requires
into_learned-requires c =
    let busy = c.args.busy in
    let same = c.new-ways.ensures.view ∙ c.view-view.ensures.same in
    let settler = c.resume-settler.ensures ∙ ap (λ (h : HierarchyValue). busy_state h busy) same in
    record { all = subst AllSettled (sym settler) (ready_all c.args.held.now busy c.requires.fits c.requires.none) }

pub returns-clause-room : goal.returns-clause-room
returns-clause-room c =
    let busy = c.args.busy in
    let held = c.args.held.now in
    let same = c.new-ways.ensures.view ∙ c.view-view.ensures.same in
    let settler = c.resume-settler.ensures ∙ ap (λ (h : HierarchyValue). busy_state h busy) same in
    let settled = subst (λ (s : SettlingValue). IfSome c.into_learned.result (ArePackedOf (settled_so_far s))) settler c.into_learned.ensures in
    let learned = subst (λ (lists : List TouchedEdge). IfSome c.into_learned.result (ArePackedOf (hierarchy_with held busy.edit lists))) (sym c.requires.fits.lists) settled in
    edits_after held (hierarchy_with held busy.edit busy.papers.lists) (busy.edit ∷ []) (ready_together held busy c.requires.fits c.requires.none) c.args.room.now c.args.room.now.buckets
    c.into_learned.result c.requires.room refl refl learned
