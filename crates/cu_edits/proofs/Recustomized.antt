-- Recustomization: the edges settled so far are the first of the touched ones.
use Rattle.std.proofs.Common.{◌≡◌, ◌≤◌, ◌<◌, ◌+◌, ◌∙◌, ℕ, List, [], ◌∷◌, ◌++◌, Some, ap, refl, sym, subst, arith, length, get_or}
use Rattle.std.specs.Prelude.{slice_get}
use Rattle.std.specs.List.{Contains}
use Rattle.std.proofs.lemmas.List.{length-map, length_push, map-append}
use Rattle.std.proofs.lemmas.Option.{slice_get-get_or}
use Rattle.cu_model.specs.declared.roads.Edit.{Edit}
use Rattle.cu_interval.specs.declared.ways.TouchedEdge.{TouchedEdge}
use Rattle.cu_interval.specs.Hierarchies.{HierarchyValue, IsHierarchy}
use Rattle.cu_edits.specs.Settling.{IsResettledEdge, IsSettled, SettlingValue, numbers_of, settled_so_far}
use Rattle.cu_edits.specs.Steps.Holding.{IsNext, settling_of}
use Rattle.cu_edits.specs.Steps.Settled.{AreSettled}
use Rattle.cu_edits.proofs.RisingEdges.{next_of_rising, split_at, whole_front}
use Rattle.cu_edits.proofs.SettledAll.{AllSettled, all_resettled, all_sound}
use Rattle.cu_edits.proofs.SettledFrames.{settled_more, settled_none}
use Rattle.cu_resettled.specs.ResettlingAll.{IsResettledAll, IsTouchedEdgeBySome, NumbersTouchedBySome, hierarchy_with_all}
use Rattle.cu_edits.specs.Lists.{AreInRange, AreSound}
use Rattle.cu_edits.proofs.EditedLists.{edited_networks}

-- the lists so far are those that the settler gave, of so many first edges
pub record AreFirstSettled (h : HierarchyValue) (edit : List Edit) (edges : List ℕ) (index : ℕ) (lists : List TouchedEdge) (s : SettlingValue) : Type 0 where
  pub state : s ≡ settling_of h edit lists
  pub are : AreSettled (settling_of h edit lists)
  pub count : length lists ≡ index
  pub rest : List ℕ
  pub parts : numbers_of lists ++ rest ≡ edges

pub first_none : (h : HierarchyValue) → IsHierarchy h → (edit : List Edit) (edges : List ℕ) (s : SettlingValue) → s ≡ settling_of h edit [] → AreFirstSettled h edit edges 0 [] s
first_none h sound edit edges s state = record {
  state = state;
  are = settled_none h edit sound;
  count = refl;
  rest = edges;
  parts = refl;
}

module _ (h : HierarchyValue) (edit : List Edit) (edges : List ℕ) (touched : NumbersTouchedBySome h edit edges) (index : ℕ) (lists : List TouchedEdge) (s : SettlingValue)
    (first : AreFirstSettled h edit edges index lists s) where
  -- the edges in their parts, before the next one is settled
  pub front_here : index < length edges → (more : List ℕ) × (numbers_of lists ++ (get_or edges index 0 ∷ more) ≡ edges)
  front_here lt =
      let edge = get_or edges index 0 in
      let long = length-map lists (λ (t : TouchedEdge). t.edge) in
      let there : slice_get edges (length (numbers_of lists)) ≡ Some edge =
      subst (λ (k : ℕ). slice_get edges k ≡ Some edge) (sym (long ∙ first.count)) (slice_get-get_or edges index 0 lt) in
      let place = subst (λ (xs : List ℕ). slice_get xs (length (numbers_of lists)) ≡ Some edge) (sym first.parts) there in
      let (more, same) = split_at (numbers_of lists) first.rest edge place in
      (more, ap (λ (xs : List ℕ). numbers_of lists ++ xs) (sym same) ∙ first.parts)

  -- what settling the next edge asks for
  pub first_asks : index < length edges → IsNext s (get_or edges index 0)
  first_asks lt =
      let edge = get_or edges index 0 in
      let (more, parts) = front_here lt in
      subst (λ (x : SettlingValue). IsNext x edge) (sym first.state)
      (next_of_rising (settling_of h edit lists) first.are.sound edge more (subst (NumbersTouchedBySome h edit) (sym parts) touched))

  -- one more edge is settled
  pub first_next : index < length edges → (grown : List TouchedEdge) (next : SettlingValue) (t : TouchedEdge) → t.edge ≡ get_or edges index 0
      → next ≡ record s { settled = s.settled ++ (t ∷ []) } → IsResettledEdge (settled_so_far next) t → grown ≡ lists ++ (t ∷ [])
      → AreFirstSettled h edit edges (index + 1) grown next
  first_next lt grown next t named state resettled grows =
      let number : TouchedEdge → ℕ = λ (x : TouchedEdge). x.edge in
      let (more, parts) = front_here lt in
      let own = subst (λ (e : ℕ). numbers_of lists ++ (e ∷ more) ≡ edges) (sym named) parts in
      let asked = next_of_rising (settling_of h edit lists) first.are.sound t.edge more (subst (NumbersTouchedBySome h edit) (sym own) touched) in
      let moved : next ≡ settling_of h edit (lists ++ (t ∷ [])) = state ∙ ap (λ (x : SettlingValue). record x { settled = x.settled ++ (t ∷ []) }) first.state in
      let are = settled_more (settling_of h edit lists) first.are t asked.touched asked.fresh asked.sides (subst (λ (x : SettlingValue). IsResettledEdge (settled_so_far x) t) moved resettled) in
      let long : length grown ≡ length (lists ++ (t ∷ [])) = ap (λ (x : List TouchedEdge). length x) grows in
      let longer = length_push lists t in
      let count = first.count in
      record {
        state = moved ∙ ap (settling_of h edit) (sym grows);
        are = subst (λ (x : List TouchedEdge). AreSettled (settling_of h edit x)) (sym grows) are;
        count = omega (arith, long, longer, count);
        rest = more;
        parts = ap (λ (x : List TouchedEdge). numbers_of x ++ more) grows ∙ ap (λ (xs : List ℕ). xs ++ more) (map-append number lists (t ∷ []))
            ∙ append_one (numbers_of lists) t.edge more ∙ own;
      }
    where
      append_one : (front : List ℕ) (edge : ℕ) (rest : List ℕ) → (front ++ (edge ∷ [])) ++ rest ≡ front ++ (edge ∷ rest)
      append_one [] edge rest = refl
      append_one (x ∷ front) edge rest = ap (λ (xs : List ℕ). x ∷ xs) (append_one front edge rest)

  -- in the end all edges are
  pub first_all : length edges ≤ index → numbers_of lists ≡ edges
  first_all done =
      let long = length-map lists (λ (t : TouchedEdge). t.edge) in
      let count = first.count in
      let parts = ap (λ (xs : List ℕ). length xs) first.parts in
      let within = front_within (numbers_of lists) first.rest in
      whole_front (numbers_of lists) first.rest edges first.parts (omega (arith, done, long, count, parts, within))
    where
      front_within : (xs ys : List ℕ) → length xs ≤ length (xs ++ ys)
      front_within [] ys = omega arith
      front_within (x ∷ xs) ys = let h = front_within xs ys in omega (arith, h)

-- all touched edges were settled
pub record IsRecustomized (h : HierarchyValue) (edit : List Edit) (s : SettlingValue) (lists : List TouchedEdge) : Type 0 where
  pub touched : NumbersTouchedBySome h edit (numbers_of lists)
  pub settled : s.settled ≡ lists
  pub resettled : IsResettledAll h edit (hierarchy_with_all h edit lists)
  pub sound : IsHierarchy (hierarchy_with_all h edit lists)
  pub same : settled_so_far s ≡ hierarchy_with_all h edit lists

pub recustomized_all : (h : HierarchyValue) (edit : List Edit) (edges : List ℕ) → NumbersTouchedBySome h edit edges → (index : ℕ) (lists : List TouchedEdge) (s : SettlingValue)
    → AreFirstSettled h edit edges index lists s → length edges ≤ index → AreInRange h.network edit → AreSound edit → IsRecustomized h edit s lists
recustomized_all h edit edges touched index lists s first done range sets =
    let settled = settling_of h edit lists in
    let whole = first_all h edit edges touched index lists s first done in
    let all : AllSettled settled = λ e is. subst (λ (xs : List ℕ). Contains xs e) (sym whole) ((touched.exact e).1 is) in
    record {
      touched = subst (NumbersTouchedBySome h edit) (sym whole) touched;
      settled = ap (λ (x : SettlingValue). x.settled) first.state;
      resettled = all_resettled settled first.are all;
      sound = all_sound settled first.are all (edited_networks h.network edit first.are.sound.network range sets);
      same = ap settled_so_far first.state;
    }

-- so each of them is among those that the settler settled
pub all_settled : (h : HierarchyValue) (edit : List Edit) (s : SettlingValue) (lists : List TouchedEdge) → NumbersTouchedBySome h edit (numbers_of lists) → s.settled ≡ lists
    → s.before ≡ h → s.edit ≡ edit → (edge : ℕ) → IsTouchedEdgeBySome s.before s.edit edge → IsSettled s edge
all_settled h edit s lists numbers moved before same edge touched =
    let there : IsTouchedEdgeBySome h edit edge = subst (λ (e : List Edit). IsTouchedEdgeBySome h e edge) same (subst (λ (x : HierarchyValue). IsTouchedEdgeBySome x s.edit edge) before touched) in
    subst (λ (xs : List TouchedEdge). Contains (numbers_of xs) edge) (sym moved) ((numbers.exact edge).1 there)
