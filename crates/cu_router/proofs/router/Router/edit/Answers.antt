use Rattle.std.proofs.Common.{◌≡◌, ◌∷◌, ◌∙◌, List, [], ap, length, subst, sym}
use Rattle.cu_model.specs.Edits.{IsEditInRange}
use Rattle.cu_edits.specs.Settling.{numbers_of}
use Rattle.cu_interval.specs.declared.ways.TouchedEdge.{TouchedEdge}
use Rattle.cu_interval.specs.Hierarchies.{HierarchyValue}
use Rattle.cu_interval.specs.Replacing.{hierarchy_with}
use Rattle.cu_resettled.specs.ResettlingAll.{IsResettledAll, NumbersTouchedBySome}
use Rattle.cu_resettled.proofs.TouchedBySome.{all_of_one, numbers_of_one}
use Rattle.cu_pack.specs.Checks.{Spells, sealed}
use Rattle.cu_recall.specs.Rooms.{Fits}
use Rattle.cu_router.specs.Edited.{IsEdited}
use Rattle.cu_router.specs.Lists.{FitsLists}
use Rattle.cu_router.specs.Steps.Rooms.{FitsEdits}
use Rattle.cu_router.proofs.ListsLaws.{lists_below}
use Rattle.cu_router.proofs.RoomLaws.{edit_made, fits_after}
use Rattle.cu_router.proofs.router.Router.edit.Goals as goal

pub edit_held-requires-clause-knows : goal.edit_held-requires-clause-knows
edit_held-requires-clause-knows c = c.rows-rows.ensures.knows c.self.inside.held c.self.invariant.0.knows

pub change_over-requires : goal.change_over-requires
change_over-requires c =
    let held = c.self.inside.held in
    let edit = c.args.edit in
    let bytes = sealed c.in_ok-bytes.bytes.items in
    let same = sym c.as_slice-lists.ensures.value in
    let touched = c.in_ok-bytes.ensures in
    record {
      change = record {
        edits = edit ∷ [];
        spelled = subst (λ (l : List TouchedEdge). Spells bytes (hierarchy_with held edit l)) same touched.spelled;
        resettled = subst (λ (l : List TouchedEdge). IsResettledAll held (edit ∷ []) (hierarchy_with held edit l)) same
            (all_of_one held (hierarchy_with held edit c.in_ok-bytes.touched.lists.items) edit touched.resettled);
        touched = subst (λ (l : List TouchedEdge). NumbersTouchedBySome held (edit ∷ []) (numbers_of l)) same
            ((numbers_of_one held edit (numbers_of c.in_ok-bytes.touched.lists.items)).0 touched.touched);
      };
    }

pub forget-requires-2 : goal.forget-requires-2
forget-requires-2 c =
    let held = c.self.inside.held in
    let edit = c.args.edit in
    let touched = subst (λ (l : List TouchedEdge). NumbersTouchedBySome held (edit ∷ []) (numbers_of l)) (sym c.as_slice-lists.ensures.value)
    ((numbers_of_one held edit (numbers_of c.in_ok-bytes.touched.lists.items)).0 c.in_ok-bytes.ensures.touched) in
    record { edges = lists_below held (edit ∷ []) c.as_slice-lists.result.now c.self.inside.lists.store.known touched c.self.invariant.3.size }

pub invariant_of-self-2 : goal.invariant_of-self-2
invariant_of-self-2 c =
    let held = c.self.inside.held in
    let edit = c.args.edit in
    let lists = c.in_ok-bytes.touched.lists.items in
    let bytes = sealed c.in_ok-bytes.bytes.items in
    let spells = c.in_ok-bytes.ensures.spelled in
    let new = hierarchy_with held edit lists in
    let same : c.change_over.new.self ≡ new = c.change_over.ensures.changed new spells in
    let fits = fits_after held new (edit ∷ []) (all_of_one held new edit c.in_ok-bytes.ensures.resettled) c.self.inside.queries c.forget.new.self c.self.invariant.0
    c.forget.ensures.nodes c.forget.ensures.lists (c.forget.ensures.knows new) (c.forget.ensures.downs new) in
    let nodes : length c.self.inside.reaches ≡ new.network.nodes = c.self.invariant.2 ∙ sym (sym fits.nodes ∙ c.forget.ensures.nodes ∙ c.self.invariant.0.nodes) in (
      subst (λ (h : HierarchyValue). Fits h c.forget.new.self) (sym same) fits,
      subst (λ (h : HierarchyValue). FitsEdits h c.edit_held.new.editing) (sym same) c.in_ok-bytes.ensures.editing,
      nodes ∙ sym (ap (λ (h : HierarchyValue). h.network.nodes) same),
      subst (λ (h : HierarchyValue). FitsLists h c.forget-2.new.self) (sym same)
          (c.forget-2.ensures held new (edit ∷ []) c.in_ok-bytes.ensures.held (all_of_one held new edit c.in_ok-bytes.ensures.resettled) c.self.invariant.3
          (subst (λ (l : List TouchedEdge). NumbersTouchedBySome held (edit ∷ []) (numbers_of l)) (sym c.as_slice-lists.ensures.value)
          ((numbers_of_one held edit (numbers_of lists)).0 c.in_ok-bytes.ensures.touched))),
    )

pub returns-clause-edited : goal.returns-clause-edited
returns-clause-edited c =
    let held = c.self.inside.held in
    let edit = c.args.edit in
    let lists = c.in_ok-bytes.touched.lists.items in
    let bytes = sealed c.in_ok-bytes.bytes.items in
    let spells = c.in_ok-bytes.ensures.spelled in
    let same : c.change_over.new.self ≡ hierarchy_with held edit lists = c.change_over.ensures.changed (hierarchy_with held edit lists) spells in
    let range = subst (λ (h : HierarchyValue). IsEditInRange h.network edit) (sym c.self.view_is) c.requires.range in
    let touched = c.in_ok-bytes.ensures in
    let made = edit_made held c.change_over.new.self edit lists touched.held range touched.touched touched.resettled touched.sound same in
    let counted = subst (λ (l : List TouchedEdge). IsEdited held edit c.change_over.new.self (length l)) (sym c.as_slice-lists.ensures.value) made in
    subst (λ (h : HierarchyValue). IsEdited h edit c.change_over.new.self (length c.as_slice-lists.result.now)) c.self.view_is counted
