-- The lists of a hierarchy after those of some edges were replaced.
use Rattle.std.proofs.Common.{◌≡◌, ◌≢◌, ◌<◌, ◌+◌, ◌*◌, ◌∙◌, ℕ, List, [], ◌∷◌, ◌++◌, Some, refl, ap, sym, subst, arith, inl, inr, length}
use Rattle.std.specs.Prelude.{slice_get, slice_set}
use Rattle.std.specs.List.{AllPairs, Contains}
use Rattle.std.proofs.lemmas.List.Elements.{All-contains}
use Rattle.std.proofs.lemmas.List.{length-set}
use Rattle.cu_model.specs.declared.roads.Edit.{Edit}
use Rattle.cu_model.proofs.ListLaws.{get_here, get_other}
use Rattle.cu_chordal.proofs.Members.{here, member_cases, none_in_nil, pairs_head, pairs_tail, there}
use Rattle.cu_interval.specs.declared.ways.Dir.{Dir}
use Rattle.cu_interval.specs.declared.ways.Dir.TheVariants.{Up, Down}
use Rattle.cu_interval.specs.declared.ways.Entry.{Entry}
use Rattle.cu_interval.specs.declared.ways.TouchedEdge.{TouchedEdge}
use Rattle.cu_interval.specs.Hierarchies.{HierarchyValue, entries_or_none, list_number, list_of}
use Rattle.cu_interval.specs.Replacing.{replaced, replaced_by}
use Rattle.cu_interval.proofs.Replacing.{replaced_by_long}
use Rattle.cu_edits.specs.Settling.{list_in, numbers_of}
use Rattle.cu_resettled.specs.ResettlingAll.{hierarchy_with_all}

-- different edges
abbrev pub AreApart : List TouchedEdge → Type 0
AreApart edges = AllPairs (λ (first second : TouchedEdge). first.edge ≢ second.edge) edges

pub numbers_apart : (e f : ℕ) (d c : Dir) → e ≢ f → list_number e d ≢ list_number f c
numbers_apart e f Up Up ne same = ne (omega (arith, same))
numbers_apart e f Up Down ne same = omega (arith, same)
numbers_apart e f Down Up ne same = omega (arith, same)
numbers_apart e f Down Down ne same = ne (omega (arith, same))

pub replaced_by_other : (lists : List (List Entry)) (t : TouchedEdge) (e : ℕ) (d : Dir) → t.edge ≢ e → slice_get (replaced_by lists t) (list_number e d) ≡ slice_get lists (list_number e d)
replaced_by_other lists t e d ne =
    get_other (slice_set lists (list_number t.edge Up) t.up) (list_number t.edge Down) (list_number e d) t.down (numbers_apart t.edge e Down d ne)
    ∙ get_other lists (list_number t.edge Up) (list_number e d) t.up (numbers_apart t.edge e Up d ne)

pub replaced_by_here : (lists : List (List Entry)) (t : TouchedEdge) (d : Dir) → 2 * t.edge + 1 < length lists → slice_get (replaced_by lists t) (list_number t.edge d) ≡ Some (list_in t d)
replaced_by_here lists t Up lt =
    get_other (slice_set lists (list_number t.edge Up) t.up) (list_number t.edge Down) (list_number t.edge Up) t.down (λ same. omega (arith, same))
    ∙ get_here lists (list_number t.edge Up) t.up (omega (arith, lt))
replaced_by_here lists t Down lt =
    let long = length-set lists (list_number t.edge Up) t.up in
    get_here (slice_set lists (list_number t.edge Up) t.up) (list_number t.edge Down) t.down (omega (arith, lt, long))

pub replaced_push : (edges : List TouchedEdge) (lists : List (List Entry)) (t : TouchedEdge) → replaced lists (edges ++ (t ∷ [])) ≡ replaced_by (replaced lists edges) t
replaced_push [] lists t = refl
replaced_push (x ∷ edges) lists t = replaced_push edges (replaced_by lists x) t

-- who is among the numbers is the number of an edge
pub number_of_one : (edges : List TouchedEdge) (e : ℕ) → Contains (numbers_of edges) e → (t : TouchedEdge) × Contains edges t × (t.edge ≡ e)
number_of_one [] e c = absurd (none_in_nil e c)
number_of_one (x ∷ edges) e c = elim (member_cases x.edge (numbers_of edges) e c) [
  | inl first ↦ (x, here x edges, first)
  | inr later ↦ let (t, in_rest, same) = number_of_one edges e later in (t, there x edges t in_rest, same)
]

pub number_among : (edges : List TouchedEdge) (t : TouchedEdge) → Contains edges t → Contains (numbers_of edges) t.edge
number_among [] t c = absurd (none_in_nil t c)
number_among (x ∷ edges) t c = elim (member_cases x edges t c) [
  | inl first ↦ subst (λ (y : TouchedEdge). Contains (numbers_of (x ∷ edges)) y.edge) first (here x.edge (numbers_of edges))
  | inr later ↦ there x.edge (numbers_of edges) t.edge (number_among edges t later)
]

pub replaced_other : (edges : List TouchedEdge) (lists : List (List Entry)) (e : ℕ) (d : Dir) → (Contains (numbers_of edges) e → ⊥)
    → slice_get (replaced lists edges) (list_number e d) ≡ slice_get lists (list_number e d)
replaced_other [] lists e d not_in = refl
replaced_other (t ∷ edges) lists e d not_in =
    replaced_other edges (replaced_by lists t) e d (λ c. not_in (there t.edge (numbers_of edges) e c))
    ∙ replaced_by_other lists t e d (λ same. not_in (subst (Contains (numbers_of (t ∷ edges))) same (here t.edge (numbers_of edges))))

pub replaced_here : (edges : List TouchedEdge) (lists : List (List Entry)) (t : TouchedEdge) (d : Dir) → AreApart edges → Contains edges t → 2 * t.edge + 1 < length lists
    → slice_get (replaced lists edges) (list_number t.edge d) ≡ Some (list_in t d)
replaced_here [] lists t d apart c lt = absurd (none_in_nil t c)
replaced_here (x ∷ edges) lists t d apart c lt = elim (member_cases x edges t c) [
  | inl first ↦
      let once : Contains (numbers_of edges) t.edge → ⊥ = λ again.
      let (other, in_rest, same) = number_of_one edges t.edge again in
      head_apart other in_rest (ap (λ (y : TouchedEdge). y.edge) first ∙ sym same) in
      replaced_other edges (replaced_by lists x) t.edge d once
      ∙ subst (λ (y : TouchedEdge). slice_get (replaced_by lists x) (list_number y.edge d) ≡ Some (list_in y d)) first
      (replaced_by_here lists x d (let same = ap (λ (y : TouchedEdge). y.edge) first in omega (arith, lt, same)))
  | inr later ↦
      let long = replaced_by_long lists x in
      replaced_here edges (replaced_by lists x) t d (pairs_tail (λ (first second : TouchedEdge). first.edge ≢ second.edge) x edges apart) later (omega (arith, lt, long))
]
  where
    head_apart : (other : TouchedEdge) → Contains edges other → x.edge ≢ other.edge
    head_apart other c = All-contains (λ (y : TouchedEdge). x.edge ≢ y.edge) edges other (pairs_head (λ (first second : TouchedEdge). first.edge ≢ second.edge) x edges apart) c

module _ (h : HierarchyValue) (edit : List Edit) (edges : List TouchedEdge) where
  -- the list of an edge that wasn't replaced, and of one that was
  pub list_kept : (e : ℕ) (d : Dir) → (Contains (numbers_of edges) e → ⊥) → list_of (hierarchy_with_all h edit edges) e d ≡ list_of h e d
  list_kept e d not_in = ap entries_or_none (replaced_other edges h.lists e d not_in)

  pub list_replaced : (t : TouchedEdge) (d : Dir) → AreApart edges → Contains edges t → 2 * t.edge + 1 < length h.lists → list_of (hierarchy_with_all h edit edges) t.edge d ≡ list_in t d
  list_replaced t d apart c lt = ap entries_or_none (replaced_here edges h.lists t d apart c lt)

  -- one more edge
  pub list_pushed : (t : TouchedEdge) (e : ℕ) (d : Dir) → t.edge ≢ e → list_of (hierarchy_with_all h edit (edges ++ (t ∷ []))) e d ≡ list_of (hierarchy_with_all h edit edges) e d
  list_pushed t e d ne =
      ap (λ (lists : List (List Entry)). entries_or_none (slice_get lists (list_number e d))) (replaced_push edges h.lists t)
      ∙ ap entries_or_none (replaced_by_other (replaced h.lists edges) t e d ne)
