-- An edit in work: the next edge may be settled, and once none is left all touched edges are.
use Rattle.std.proofs.Common.{◌≡◌, ◌≤◌, ◌<◌, ◌+◌, ◌-◌, ◌∙◌, ℕ, List, [], ◌∷◌, ◌++◌, Some, length, refl, ap, sym, subst, arith, get_or}
use Rattle.std.specs.Prelude.{slice_get}
use Rattle.std.specs.List.{Contains}
use Rattle.std.specs.List.Sorted.{IsStrictlyIncreasing}
use Rattle.std.proofs.lemmas.List.{length-map}
use Rattle.std.proofs.lemmas.Option.{get_or_from_slice_get, slice_get_within}
use Rattle.cu_model.specs.declared.roads.Edit.{Edit}
use Rattle.cu_model.specs.Networks.{IsNetwork}
use Rattle.cu_chordal.specs.declared.graph.TheConstants.{MAX_EDGES}
use Rattle.cu_chordal.proofs.Members.{here, there}
use Rattle.cu_interval.specs.declared.ways.TouchedEdge.{TouchedEdge}
use Rattle.cu_interval.specs.Hierarchies.{HierarchyValue, IsHierarchy}
use Rattle.cu_edits.specs.InWork.{InWorkValue, IsInWork, PapersValue, SettlesNext, in_work_of, left_of}
use Rattle.cu_edits.specs.Steps.Settled.{AreSettled}
use Rattle.cu_edits.specs.Settling.{IsResettledEdge, SettlingValue, numbers_of, settled_so_far}
use Rattle.cu_edits.specs.Steps.Holding.{IsNext}
use Rattle.cu_edits.proofs.Recustomized.{AreFirstSettled, first_all, first_asks, first_next, front_here}
use Rattle.cu_edits.proofs.RisingEdges.{head_less, tail_increasing}
use Rattle.cu_edits.proofs.SettledAll.{AllSettled, all_resettled, all_sound}
use Rattle.cu_edits.proofs.SettledFrames.{settled_none, settled_with}
use Rattle.cu_resettled.specs.ResettlingAll.{IsResettledAll, NumbersTouchedBySome, edited_all, hierarchy_with_all}

few_from : (a n : ℕ) (xs : List ℕ) → a ≤ n → IsStrictlyIncreasing xs → ((y : ℕ) → Contains xs y → (a ≤ y) × (y < n)) → length xs + a ≤ n
few_from a n [] le rising within = omega (arith, le)
few_from a n (x ∷ xs) le rising within =
    let x_in = within x (here x xs) in
    let rest = few_from (x + 1) n xs (omega (arith, x_in)) (tail_increasing x xs rising) (λ y c.
    let less = head_less x xs y rising c in
    let y_in = within y (there x xs y c) in
    (omega (arith, less), y_in.1)) in
    omega (arith, rest, x_in)

-- an edit touches no more edges than there are
pub few_touched : (h : HierarchyValue) → IsHierarchy h → (edit : List Edit) (edges : List ℕ) → NumbersTouchedBySome h edit edges → length edges ≤ MAX_EDGES
few_touched h sound edit edges touched =
    let few = few_from 0 (length h.edges) edges (omega arith) touched.rising (λ y c.
    let (ends, at, is) = (touched.exact y).0 c in
    let lt = slice_get_within h.edges y ends at in
    (omega arith, lt)) in
    let most = sound.graph.few_edges in
    omega (arith, few, most)

-- an edit begins with none settled
pub in_work_none : (client : ℕ) (edges : List ℕ) (s : SettlingValue) → s.settled ≡ [] → NumbersTouchedBySome s.before s.edit edges → IsHierarchy s.before
    → IsInWork (record { client = client; edges = edges; state = s })
in_work_none client edges s none touched sound = record {
  touched = touched;
  few = few_touched s.before sound s.edit edges touched;
  rest = edges;
  parts = ap (λ (lists : List TouchedEdge). numbers_of lists ++ edges) none;
  are = subst AreSettled (ap (λ (lists : List TouchedEdge). record s { settled = lists }) (sym none)) (settled_none s.before s.edit sound);
}

module _ (work : InWorkValue) (is : IsInWork work) where
  -- those settled are the first of its edges
  first_of : AreFirstSettled work.state.before work.state.edit work.edges (length work.state.settled) work.state.settled work.state
  first_of = record {
    state = refl;
    are = is.are;
    count = refl;
    rest = is.rest;
    parts = is.parts;
  }

  -- no more are settled than there are
  pub in_work_within : length work.state.settled ≤ length work.edges
  in_work_within =
      let long = length-map work.state.settled (λ (t : TouchedEdge). t.edge) in
      let all = ap (λ (xs : List ℕ). length xs) is.parts in
      let more = longer (numbers_of work.state.settled) is.rest in
      omega (arith, long, all, more)
    where
      longer : (xs ys : List ℕ) → length xs ≤ length (xs ++ ys)
      longer [] ys = omega arith
      longer (x ∷ xs) ys = let h = longer xs ys in omega (arith, h)

  -- once none is left they are all settled
  pub none_left : left_of work ≡ 0 → numbers_of work.state.settled ≡ work.edges
  none_left none =
      let within = in_work_within in
      let done : length work.edges - length work.state.settled ≡ 0 = none in
      first_all work.state.before work.state.edit work.edges is.touched (length work.state.settled) work.state.settled work.state first_of (omega (arith, done, within))

  pub all_in_work : left_of work ≡ 0 → AllSettled work.state
  all_in_work none = λ e touched. subst (λ (xs : List ℕ). Contains xs e) (sym (none_left none)) ((is.touched.exact e).1 touched)

  -- and what they are then
  module _ (none : left_of work ≡ 0) (lists : List TouchedEdge) (same : lists ≡ work.state.settled) where
    pub work_touched : NumbersTouchedBySome work.state.before work.state.edit (numbers_of lists)
    work_touched = subst (NumbersTouchedBySome work.state.before work.state.edit) (sym (ap numbers_of same ∙ none_left none)) is.touched

    pub work_resettled : IsResettledAll work.state.before work.state.edit (hierarchy_with_all work.state.before work.state.edit lists)
    work_resettled =
        subst (λ (x : List TouchedEdge). IsResettledAll work.state.before work.state.edit (hierarchy_with_all work.state.before work.state.edit x)) (sym same)
        (all_resettled work.state is.are (all_in_work none))

    pub work_sound : IsNetwork (edited_all work.state.before.network work.state.edit) → IsHierarchy (hierarchy_with_all work.state.before work.state.edit lists)
    work_sound network =
        subst (λ (x : List TouchedEdge). IsHierarchy (hierarchy_with_all work.state.before work.state.edit x)) (sym same)
        (all_sound work.state is.are (all_in_work none) network)

-- what a step leaves
pub record IsStepped (papers : PapersValue) (s : SettlingValue) (after : PapersValue) (t : SettlingValue) : Type 0 where
  pub work : IsInWork (in_work_of after t)
  pub same : after.lists ≡ t.settled
  pub next : SettlesNext (in_work_of papers s) (in_work_of after t)

module _ (papers : PapersValue) (s : SettlingValue) (is : IsInWork (in_work_of papers s)) (same : papers.lists ≡ s.settled)
    (edge : ℕ) (at : slice_get papers.edges (length papers.lists) ≡ Some edge) where
  at_next : slice_get papers.edges (length s.settled) ≡ Some edge
  at_next = subst (λ (lists : List TouchedEdge). slice_get papers.edges (length lists) ≡ Some edge) same at

  is_edge : get_or papers.edges (length s.settled) 0 ≡ edge
  is_edge = get_or_from_slice_get papers.edges (length s.settled) edge 0 at_next

  -- what a step asks of the settler
  pub step_asks : IsNext s edge
  step_asks =
      subst (IsNext s) is_edge (first_asks s.before s.edit papers.edges is.touched (length s.settled) s.settled s (first_of (in_work_of papers s) is)
      (slice_get_within papers.edges (length s.settled) edge at_next))

  -- one more edge is settled
  settled_one : (list : TouchedEdge) → list.edge ≡ edge → IsResettledEdge (settled_so_far (settled_with s list)) list → IsInWork (in_work_of papers (settled_with s list))
  settled_one list number resettled =
      let lt = slice_get_within papers.edges (length s.settled) edge at_next in
      let next = first_next s.before s.edit papers.edges is.touched (length s.settled) s.settled s (first_of (in_work_of papers s) is) lt
      (s.settled ++ (list ∷ [])) (settled_with s list) list (number ∙ sym is_edge) refl resettled refl in
      record {
        touched = is.touched;
        few = is.few;
        rest = next.rest;
        parts = next.parts;
        are = next.are;
      }

  pub step_leaves : (after : PapersValue) (t : SettlingValue) (list : TouchedEdge) → list.edge ≡ edge → after ≡ record papers { lists = papers.lists ++ (list ∷ []) }
      → t ≡ record s { settled = s.settled ++ (list ∷ []) } → IsResettledEdge (settled_so_far t) list → IsStepped papers s after t
  step_leaves after t list number adds settles resettled =
      let lt = slice_get_within papers.edges (length s.settled) edge at_next in
      let (more, parts) = front_here s.before s.edit papers.edges is.touched (length s.settled) s.settled s (first_of (in_work_of papers s) is) lt in
      let new = subst (λ (x : SettlingValue). IsResettledEdge (settled_so_far x) list) settles resettled in
      let moved : in_work_of after t ≡ in_work_of papers (settled_with s list) =
      ap (λ (p : PapersValue). in_work_of p t) adds ∙ ap (λ (x : SettlingValue). in_work_of (record papers { lists = papers.lists ++ (list ∷ []) }) x) settles in
      record {
        work = subst IsInWork (sym moved) (settled_one list number new);
        same = ap (λ (p : PapersValue). p.lists) adds ∙ ap (λ (lists : List TouchedEdge). lists ++ (list ∷ [])) same ∙ sym (ap (λ (x : SettlingValue). x.settled) settles);
        next = record {
          list = list;
          more = more;
          next = subst (λ (e : ℕ). numbers_of s.settled ++ (e ∷ more) ≡ papers.edges) (is_edge ∙ sym number) parts;
          settled = moved;
          resettled = resettled;
        };
      }
