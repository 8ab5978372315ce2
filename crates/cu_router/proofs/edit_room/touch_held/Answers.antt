use Rattle.std.proofs.Common.{◌∷◌, ◌∙◌, [], subst, sym}
use Rattle.std.specs.Prelude.{IfOk, IfSome}
use Rattle.std.proofs.lemmas.Result.{IfOk-weaker}
use Rattle.cu_edits.specs.declared.recustomizing.Touched.{Touched}
use Rattle.cu_edits.specs.Customized.{AreCustomized}
use Rattle.cu_edits.specs.Learned.{ArePackedOf}
use Rattle.cu_bounds.specs.Near.{AreNear}
use Rattle.cu_interval.specs.Hierarchies.{HierarchyValue}
use Rattle.cu_interval.specs.Replacing.{hierarchy_with}
use Rattle.cu_resettled.proofs.TouchedBySome.{all_of_one}
use Rattle.cu_recall.specs.Spans.{Knows}
use Rattle.cu_router.specs.declared.edit_room.EditRoom.{EditRoom}
use Rattle.cu_router.specs.Steps.Rooms.{HasEditRoom}
use Rattle.cu_router.proofs.RoomLaws.{room_touched}
use Rattle.cu_router.proofs.edit_room.touch_held.Goals as goal

pub touch_over-requires-clause-customized : goal.touch_over-requires-clause-customized
touch_over-requires-clause-customized c =
    let same = c.new-ways.ensures.view ∙ c.view-view.ensures.same in
    subst (λ (h : HierarchyValue). AreCustomized h c.ground_of.result.customized.now) (sym same) c.ground_of.ensures.customized

pub touch_over-requires-clause-bounds : goal.touch_over-requires-clause-bounds
touch_over-requires-clause-bounds c =
    let same = c.new-ways.ensures.view ∙ c.view-view.ensures.same in
    subst (λ (h : HierarchyValue). IfSome c.ground_of.result.bounds (λ bounds. AreNear h bounds.now)) (sym same) c.ground_of.ensures.bounds

pub touch_over-requires-clause-learned : goal.touch_over-requires-clause-learned
touch_over-requires-clause-learned c =
    let same = c.new-ways.ensures.view ∙ c.view-view.ensures.same in
    subst (λ (h : HierarchyValue). IfSome c.args.room.now.learned (ArePackedOf h)) (sym same) c.requires.room.learned

pub new-ways-requires-clause-knows : goal.new-ways-requires-clause-knows
new-ways-requires-clause-knows c = subst (λ (h : HierarchyValue). Knows h c.args.rows.now) (sym c.view-view.ensures.same) c.requires.knows

pub returns-clause-room : goal.returns-clause-room
returns-clause-room c =
    let same = c.new-ways.ensures.view ∙ c.view-view.ensures.same in
    let before = c.args.room.now in
    let after : EditRoom = record { arcs = before.arcs; buckets = c.touch_over.new.buckets; learned = c.touch_over.new.learned } in
    let fits = subst (λ (h : HierarchyValue). HasEditRoom h before) (sym same) c.requires.room in
    let touched = room_touched c.new-ways.result (c.args.edit ∷ []) c.touch_over.result (λ (touched : Touched). touched.lists.items) before after.buckets after.learned
    (IfOk-weaker c.touch_over.result _ _ (λ touched one. all_of_one c.new-ways.result (hierarchy_with c.new-ways.result c.args.edit touched.lists.items) c.args.edit one) c.touch_over.ensures.resettled)
    c.touch_over.ensures.learned fits c.touch_over.ensures.ranks c.touch_over.ensures.edges in
    subst (λ (h : HierarchyValue). IfOk c.touch_over.result (λ (touched : Touched). HasEditRoom (hierarchy_with h c.args.edit touched.lists.items) after)) same touched
