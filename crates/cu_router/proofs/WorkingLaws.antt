-- An edit in work fits the held hierarchy before and after a step, and once none of its edges is left it may be made.
use Rattle.std.proofs.Common.{◌≡◌, ◌≤◌, ◌∷◌, ◌∙◌, ℕ, List, [], ap, length, subst, sym}
use Rattle.std.specs.Prelude.{IfOk, Result, Ok, Err}
use Rattle.std.proofs.lemmas.List.{length-map}
use Rattle.cu_model.specs.declared.roads.Edit.{Edit}
use Rattle.cu_model.specs.Edits.{IsEditInRange}
use Rattle.cu_interval.specs.declared.ways.TouchedEdge.{TouchedEdge}
use Rattle.cu_interval.specs.Hierarchies.{HierarchyValue, IsHierarchy}
use Rattle.cu_interval.specs.Replacing.{hierarchy_with}
use Rattle.cu_interval.specs.Resettling.{IsResettled}
use Rattle.cu_interval.specs.Touching.{NumbersTouched}
use Rattle.cu_resettled.specs.ResettlingAll.{IsResettledAll, hierarchy_with_all}
use Rattle.cu_resettled.proofs.TouchedBySome.{numbers_of_one, one_of_all}
use Rattle.cu_edits.specs.InWork.{IsInWork, in_work_of, left_of}
use Rattle.cu_edits.specs.Paused.{FitsPaused}
use Rattle.cu_edits.specs.Settling.{SettlingValue, numbers_of}
use Rattle.cu_chordal.specs.declared.graph.TheConstants.{MAX_EDGES}
use Rattle.cu_edits.proofs.InWorkLaws.{all_in_work, few_touched, none_left, work_resettled, work_sound, work_touched}
use Rattle.cu_edits.proofs.PausedLaws.{paused_network, paused_range}
use Rattle.cu_edits.proofs.SettledAll.{AllSettled}
use Rattle.cu_pack.specs.Checks.{Spells, sealed}
use Rattle.cu_router.specs.declared.busy.Busy.{Busy}
use Rattle.cu_router.specs.Changes.{IsChange}
use Rattle.cu_router.specs.Edited.{IsEdited}
use Rattle.cu_router.specs.Working.{FitsBusy, edges_left}
use Rattle.cu_router.proofs.RoomLaws.{edit_made}

-- what its settler settled
abbrev pub busy_state : HierarchyValue → Busy → SettlingValue
busy_state h busy = record { before = h; edit = busy.edit ∷ []; settled = busy.settler.settled }

-- an edit in work that was put aside fits the hierarchy that its settler was over
pub busy_of : (h : HierarchyValue) (busy : Busy) (s : SettlingValue) → s.before ≡ h → s.edit ≡ busy.edit ∷ [] → IsInWork (in_work_of busy.papers s) → busy.papers.lists ≡ s.settled
    → busy.settler.settled ≡ s.settled → FitsPaused s.before s.edit busy.settler → FitsBusy h busy
busy_of h busy s before edit work lists settled fits =
    let of : HierarchyValue → List Edit → List TouchedEdge → SettlingValue = λ h edit settled. record { before = h; edit = edit; settled = settled } in
    let same : s ≡ busy_state h busy = ap (λ (x : HierarchyValue). of x s.edit s.settled) before ∙ ap (λ (x : List Edit). of h x s.settled) edit ∙ ap (of h (busy.edit ∷ [])) (sym settled) in
    record {
      work = subst (λ (x : SettlingValue). IsInWork (in_work_of busy.papers x)) same work;
      lists = lists ∙ sym settled;
      fits = subst (λ (x : List Edit). FitsPaused h x busy.settler) edit (subst (λ (x : HierarchyValue). FitsPaused x s.edit busy.settler) before fits);
    }

-- none of its edges is left
module _ (h : HierarchyValue) (busy : Busy) (fits : FitsBusy h busy) (none : edges_left busy ≡ 0) where
  left_none : left_of (in_work_of busy.papers (busy_state h busy)) ≡ 0
  left_none = subst (λ (lists : List TouchedEdge). left_of (in_work_of busy.papers (record { before = h; edit = busy.edit ∷ []; settled = lists })) ≡ 0) fits.lists none

  pub ready_range : IsEditInRange h.network busy.edit
  ready_range = (paused_range h (busy.edit ∷ []) busy.settler fits.fits).0

  pub ready_all : AllSettled (busy_state h busy)
  ready_all = all_in_work (in_work_of busy.papers (busy_state h busy)) fits.work left_none

  pub ready_touched : NumbersTouched h busy.edit (numbers_of busy.papers.lists)
  ready_touched =
      (numbers_of_one h busy.edit (numbers_of busy.papers.lists)).1
      (work_touched (in_work_of busy.papers (busy_state h busy)) fits.work left_none busy.papers.lists fits.lists)

  pub ready_together : IsResettledAll h (busy.edit ∷ []) (hierarchy_with_all h (busy.edit ∷ []) busy.papers.lists)
  ready_together = work_resettled (in_work_of busy.papers (busy_state h busy)) fits.work left_none busy.papers.lists fits.lists

  pub ready_resettled : IsResettled h busy.edit (hierarchy_with h busy.edit busy.papers.lists)
  ready_resettled = one_of_all h (hierarchy_with h busy.edit busy.papers.lists) busy.edit ready_together

  pub ready_sound : IsHierarchy (hierarchy_with h busy.edit busy.papers.lists)
  ready_sound = work_sound (in_work_of busy.papers (busy_state h busy)) fits.work left_none busy.papers.lists fits.lists (paused_network h (busy.edit ∷ []) busy.settler fits.fits)

  -- as many lists as edges
  pub ready_count : length busy.papers.lists ≡ length busy.papers.edges
  ready_count =
      let all = none_left (in_work_of busy.papers (busy_state h busy)) fits.work left_none in
      sym (length-map busy.papers.lists (λ (t : TouchedEdge). t.edge)) ∙ ap (λ (lists : List TouchedEdge). length (numbers_of lists)) fits.lists
      ∙ ap (λ (xs : List ℕ). length xs) all

  -- the packed bytes after it may take the place of those that are held
  pub ready_change : (bytes : List ℕ) → Spells (sealed bytes) (hierarchy_with h busy.edit busy.papers.lists) → IsChange h bytes busy.papers.lists
  ready_change bytes spelled = record {
    edits = busy.edit ∷ [];
    spelled = spelled;
    resettled = ready_together;
    touched = (numbers_of_one h busy.edit (numbers_of busy.papers.lists)).0 ready_touched;
  }

  -- and then the edit is made
  pub ready_made : (new : HierarchyValue) → new ≡ hierarchy_with h busy.edit busy.papers.lists → IsEdited h busy.edit new (length busy.papers.edges)
  ready_made new same =
      subst (IsEdited h busy.edit new) ready_count (edit_made h new busy.edit busy.papers.lists fits.work.are.sound ready_range ready_touched ready_resettled ready_sound same)

-- no more edges are touched than there are
pub few_found : {T E : Type 0} (h : HierarchyValue) → IsHierarchy h → (edit : Edit) (result : Result T E) (edges : T → List ℕ) → IfOk result (λ found. NumbersTouched h edit (edges found))
    → IfOk result (λ found. length (edges found) ≤ MAX_EDGES)
few_found h sound edit (Ok found) edges touched = few_touched h sound (edit ∷ []) (edges found) ((numbers_of_one h edit (edges found)).0 touched)
few_found h sound edit (Err e) edges touched = tt
