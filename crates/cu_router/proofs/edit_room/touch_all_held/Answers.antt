use Rattle.std.proofs.Common.{◌∙◌, subst, sym}
use Rattle.std.specs.Prelude.{IfOk, IfSome}
use Rattle.std.specs.Global.{Vec}
use Rattle.cu_interval.specs.declared.ways.TouchedEdge.{TouchedEdge}
use Rattle.cu_bounds.specs.Near.{AreNear}
use Rattle.cu_interval.specs.Hierarchies.{HierarchyValue, IsHierarchy}
use Rattle.cu_resettled.specs.ResettlingAll.{IsResettledAll, NumbersTouchedBySome, hierarchy_with_all}
use Rattle.cu_edits.specs.Customized.{AreCustomized}
use Rattle.cu_edits.specs.EditLists.{FitsList}
use Rattle.cu_edits.specs.Settling.{numbers_of}
use Rattle.cu_recall.specs.Spans.{Knows}
use Rattle.cu_router.specs.declared.edit_room.EditRoom.{EditRoom}
use Rattle.cu_router.specs.Steps.Rooms.{HasEditRoom}
use Rattle.cu_router.proofs.RoomLaws.{room_forgotten}
use Rattle.cu_router.proofs.edit_room.touch_all_held.Goals as goal

pub new-ways-requires-clause-knows : goal.new-ways-requires-clause-knows
new-ways-requires-clause-knows g c = subst (λ (h : HierarchyValue). Knows h c.args.rows.now) (sym c.view-view.ensures.same) c.requires.knows

pub settle_all-requires-clause-edits : goal.settle_all-requires-clause-edits
settle_all-requires-clause-edits g c =
    let same = c.new-ways.ensures.view ∙ c.view-view.ensures.same in
    subst (λ (h : HierarchyValue). FitsList h c.args.edits.now) (sym same) c.requires.edits

pub settle_all-requires-clause-customized : goal.settle_all-requires-clause-customized
settle_all-requires-clause-customized g c =
    let same = c.new-ways.ensures.view ∙ c.view-view.ensures.same in
    subst (λ (h : HierarchyValue). AreCustomized h c.ground_of.result.customized.now) (sym same) c.ground_of.ensures.customized

pub settle_all-requires-clause-bounds : goal.settle_all-requires-clause-bounds
settle_all-requires-clause-bounds g c =
    let same = c.new-ways.ensures.view ∙ c.view-view.ensures.same in
    subst (λ (h : HierarchyValue). IfSome c.ground_of.result.bounds (λ bounds. AreNear h bounds.now)) (sym same) c.ground_of.ensures.bounds

pub returns-clause-touched : goal.returns-clause-touched
returns-clause-touched g c =
    let same = c.new-ways.ensures.view ∙ c.view-view.ensures.same in
    subst (λ (h : HierarchyValue). IfOk c.settle_all.result (λ (lists : Vec TouchedEdge). NumbersTouchedBySome h c.args.edits.now.edits (numbers_of lists.items))) same c.settle_all.ensures.touched

pub returns-clause-resettled : goal.returns-clause-resettled
returns-clause-resettled g c =
    let same = c.new-ways.ensures.view ∙ c.view-view.ensures.same in
    subst (λ (h : HierarchyValue). IfOk c.settle_all.result (λ (lists : Vec TouchedEdge). IsResettledAll h c.args.edits.now.edits (hierarchy_with_all h c.args.edits.now.edits lists.items))) same
    c.settle_all.ensures.resettled

pub returns-clause-sound : goal.returns-clause-sound
returns-clause-sound g c =
    let same = c.new-ways.ensures.view ∙ c.view-view.ensures.same in
    subst (λ (h : HierarchyValue). IfOk c.settle_all.result (λ (lists : Vec TouchedEdge). IsHierarchy (hierarchy_with_all h c.args.edits.now.edits lists.items))) same c.settle_all.ensures.sound

pub returns-clause-room : goal.returns-clause-room
returns-clause-room g c =
    let same = c.new-ways.ensures.view ∙ c.view-view.ensures.same in
    let before = c.args.room.now in
    let after : EditRoom = record { arcs = before.arcs; buckets = before.buckets; learned = c.take.new.self } in
    let fits = subst (λ (h : HierarchyValue). HasEditRoom h before) (sym same) c.requires.room in
    let touched = room_forgotten c.new-ways.result c.args.edits.now.edits c.settle_all.result (λ (lists : Vec TouchedEdge). lists.items) before c.take.new.self c.take.ensures.after fits
    c.settle_all.ensures.resettled in
    subst (λ (h : HierarchyValue). IfOk c.settle_all.result (λ (lists : Vec TouchedEdge). HasEditRoom (hierarchy_with_all h c.args.edits.now.edits lists.items) after)) same touched
