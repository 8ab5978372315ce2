use Rattle.std.proofs.Common.{◌≡◌, ◌∷◌, ◌∙◌, List, [], ap, length, subst, sym}
use Rattle.cu_edits.specs.InWork.{PapersValue}
use Rattle.cu_edits.specs.Settling.{numbers_of}
use Rattle.cu_interval.specs.declared.ways.TouchedEdge.{TouchedEdge}
use Rattle.cu_interval.specs.Hierarchies.{HierarchyValue, IsHierarchy}
use Rattle.cu_interval.specs.Replacing.{hierarchy_with}
use Rattle.cu_resettled.specs.ResettlingAll.{NumbersTouchedBySome}
use Rattle.cu_resettled.proofs.TouchedBySome.{numbers_of_one}
use Rattle.cu_pack.specs.Checks.{Spells, sealed}
use Rattle.cu_recall.specs.Rooms.{Fits}
use Rattle.cu_router.specs.Changes.{IsChange}
use Rattle.cu_router.specs.Edited.{IsEdited}
use Rattle.cu_router.specs.Lists.{FitsLists}
use Rattle.cu_router.specs.Working.{FitsBusy}
use Rattle.cu_router.specs.Steps.Rooms.{FitsEdits, HasEditRoom}
use Rattle.cu_router.proofs.ListsLaws.{lists_below}
use Rattle.cu_router.proofs.RoomLaws.{fits_after}
use Rattle.cu_router.proofs.WorkingLaws.{ready_change, ready_made, ready_range, ready_sound, ready_together, ready_touched}
use Rattle.cu_router.proofs.router.Router.publish.Goals as goal

pub repacked-requires-clause-edits : goal.repacked-requires-clause-edits
repacked-requires-clause-edits c =
    let fits = subst (λ (h : HierarchyValue). FitsBusy h c.args.busy) (sym c.self.view_is) c.requires.fits in
    ready_range c.self.inside.held c.args.busy fits c.requires.none

pub repacked-requires-clause-touched : goal.repacked-requires-clause-touched
repacked-requires-clause-touched c =
    let held = c.self.inside.held in
    let busy = c.args.busy in
    let fits = subst (λ (h : HierarchyValue). FitsBusy h busy) (sym c.self.view_is) c.requires.fits in
    subst (λ (lists : List TouchedEdge). NumbersTouchedBySome held (busy.edit ∷ []) (numbers_of lists)) (sym c.lists.ensures)
    ((numbers_of_one held busy.edit (numbers_of busy.papers.lists)).0 (ready_touched held busy fits c.requires.none))

pub repacked-requires-clause-sound : goal.repacked-requires-clause-sound
repacked-requires-clause-sound c =
    let held = c.self.inside.held in
    let busy = c.args.busy in
    let fits = subst (λ (h : HierarchyValue). FitsBusy h busy) (sym c.self.view_is) c.requires.fits in
    subst (λ (lists : List TouchedEdge). IsHierarchy (hierarchy_with held busy.edit lists)) (sym c.lists.ensures) (ready_sound held busy fits c.requires.none)

pub finish-papers-requires-clause-room : goal.finish-papers-requires-clause-room
finish-papers-requires-clause-room c = subst (FitsEdits c.self.inside.held) c.in-Some.is c.fill_edit_room.ensures.fits

pub finish-papers-requires-clause-knows : goal.finish-papers-requires-clause-knows
finish-papers-requires-clause-knows c = c.rows.ensures.knows c.self.inside.held c.self.invariant.0.knows

pub change_over-requires : goal.change_over-requires
change_over-requires c =
    let held = c.self.inside.held in
    let busy = c.args.busy in
    let bytes = c.in-Ok-repacked.bytes.items in
    let fits = subst (λ (h : HierarchyValue). FitsBusy h busy) (sym c.self.view_is) c.requires.fits in
    let spelled = subst (λ (lists : List TouchedEdge). Spells (sealed bytes) (hierarchy_with held busy.edit lists)) c.lists.ensures c.in-Ok-repacked.ensures.spelled in
    let lists = c.lists-2.ensures ∙ ap (λ (papers : PapersValue). papers.lists) c.finish-papers.ensures.papers in
    record { change = subst (IsChange held bytes) (sym lists) (ready_change held busy fits c.requires.none bytes spelled) }

pub forget-requires-2 : goal.forget-requires-2
forget-requires-2 c =
    let held = c.self.inside.held in
    let busy = c.args.busy in
    let fits = subst (λ (h : HierarchyValue). FitsBusy h busy) (sym c.self.view_is) c.requires.fits in
    let lists = c.lists-3.ensures ∙ ap (λ (papers : PapersValue). papers.lists) c.finish-papers.ensures.papers in
    let touched = subst (λ (l : List TouchedEdge). NumbersTouchedBySome held (busy.edit ∷ []) (numbers_of l)) (sym lists)
    ((numbers_of_one held busy.edit (numbers_of busy.papers.lists)).0 (ready_touched held busy fits c.requires.none)) in
    record { edges = lists_below held (busy.edit ∷ []) c.lists-3.result.now c.self.inside.lists.store.known touched c.self.invariant.3.size }

pub invariant_of-self-2 : goal.invariant_of-self-2
invariant_of-self-2 c =
    let held = c.self.inside.held in
    let busy = c.args.busy in
    let bytes = c.in-Ok-repacked.bytes.items in
    let new = hierarchy_with held busy.edit busy.papers.lists in
    let fits = subst (λ (h : HierarchyValue). FitsBusy h busy) (sym c.self.view_is) c.requires.fits in
    let spelled = subst (λ (lists : List TouchedEdge). Spells (sealed bytes) (hierarchy_with held busy.edit lists)) c.lists.ensures c.in-Ok-repacked.ensures.spelled in
    let same : c.change_over.new.self ≡ new = c.change_over.ensures.changed new spelled in
    let queries = fits_after held new (busy.edit ∷ []) (ready_together held busy fits c.requires.none) c.self.inside.queries c.forget.new.self c.self.invariant.0
    c.forget.ensures.nodes c.forget.ensures.lists (c.forget.ensures.knows new) (c.forget.ensures.downs new) in
    let nodes : length c.self.inside.reaches ≡ new.network.nodes = c.self.invariant.2 ∙ sym (sym queries.nodes ∙ c.forget.ensures.nodes ∙ c.self.invariant.0.nodes) in (
      subst (λ (h : HierarchyValue). Fits h c.forget.new.self) (sym same) queries,
      subst (λ (h : HierarchyValue). HasEditRoom h c.finish-papers.new.room) (sym same) c.finish-papers.ensures.room,
      nodes ∙ sym (ap (λ (h : HierarchyValue). h.network.nodes) same),
      subst (λ (h : HierarchyValue). FitsLists h c.forget-2.new.self) (sym same)
          (c.forget-2.ensures held new (busy.edit ∷ []) fits.work.are.sound (ready_together held busy fits c.requires.none) c.self.invariant.3
          (subst (λ (l : List TouchedEdge). NumbersTouchedBySome held (busy.edit ∷ []) (numbers_of l))
          (sym (c.lists-3.ensures ∙ ap (λ (papers : PapersValue). papers.lists) c.finish-papers.ensures.papers))
          ((numbers_of_one held busy.edit (numbers_of busy.papers.lists)).0 (ready_touched held busy fits c.requires.none)))),
    )

pub returns-clause-published : goal.returns-clause-published
returns-clause-published c =
    let held = c.self.inside.held in
    let busy = c.args.busy in
    let bytes = c.in-Ok-repacked.bytes.items in
    let fits = subst (λ (h : HierarchyValue). FitsBusy h busy) (sym c.self.view_is) c.requires.fits in
    let spelled = subst (λ (lists : List TouchedEdge). Spells (sealed bytes) (hierarchy_with held busy.edit lists)) c.lists.ensures c.in-Ok-repacked.ensures.spelled in
    let same = c.change_over.ensures.changed (hierarchy_with held busy.edit busy.papers.lists) spelled in
    let made = ready_made held busy fits c.requires.none c.change_over.new.self same in
    subst (λ (h : HierarchyValue). IsEdited h busy.edit c.change_over.new.self (length busy.papers.edges)) c.self.view_is made
