-- The arcs of a rank, taken one after the other.
use Rattle.std.proofs.Common.{◌≡◌, ◌≢◌, ◌<◌, ◌-◌, ◌∙◌, ◌++◌, ℕ, List, [], ◌∷◌, Option, refl, sym, ap, subst, arith, inl, inr, append_assoc}
use Rattle.std.specs.List.{Contains}
use Rattle.std.proofs.lemmas.List.{append-nil}
use Rattle.std.proofs.lemmas.List.Elements.{Contains-append_cases, Contains-append_left, Contains-append_right}
use Rattle.std.proofs.lemmas.Grind.{flat_map-append}
use Rattle.cu_model.specs.Days.{day}
use Rattle.cu_arrival.specs.declared.runs.Run.{Run}
use Rattle.cu_interval.specs.declared.ways.Entry.{Entry}
use Rattle.cu_interval.specs.Hierarchies.{HierarchyValue, list_from}
use Rattle.cu_day.specs.DayChains.{list_drive}
use Rattle.cu_day.specs.Steps.Sweeping.{Arc, BeginsAs, BeginsAt, IsSwept, Over, TakesList, arc, arc_if, arc_over, arcs_down, arcs_up, label_at}
use Rattle.cu_day.specs.Steps.Ranks.{GathersFrom, SpreadsTo}
use Rattle.cu_chordal.proofs.Members.{here, member_cases, none_in_nil, there}
use Rattle.cu_day.proofs.Arcs.{With, swept_same, take_arc}

-- the list between two ranks, empty or not
over_more : (arcs : List Arc) (x y p q : ℕ) → With (Over arcs) x y p q → Over (arcs ++ (arc x y ∷ [])) p q
over_more arcs x y p q (inl old) = Contains-append_left arcs (arc x y ∷ []) (arc p q) old
over_more arcs x y p q (inr (a, b)) =
    let same : arc x y ≡ arc p q = ap (λ (n : ℕ). arc n y) (sym a) ∙ ap (arc p) (sym b) in
    Contains-append_right arcs (arc x y ∷ []) (arc p q) (subst (λ (z : Arc). Contains (arc x y ∷ []) z) same (here (arc x y) []))

with_of : (arcs : List Arc) (x y p q : ℕ) → Over (arcs ++ (arc x y ∷ [])) p q → With (Over arcs) x y p q
with_of arcs x y p q c = elim (Contains-append_cases arcs (arc x y ∷ []) (arc p q) c) [
  | inl old ↦ inl old
  | inr new ↦ elim (member_cases (arc x y) [] (arc p q) new) [
    | inl same ↦ inr (sym (ap (λ (a : Arc). a.start) same), sym (ap (λ (a : Arc). a.end) same))
    | inr none ↦ absurd (none_in_nil (arc p q) none)
  ]
]

by_list : (Counts : ℕ → ℕ → ℕ → Type 0) (h : HierarchyValue) (x y t : ℕ) (turn : ℕ → ℕ) (Begins : ℕ → ℕ → Type 0) (arcs : List Arc) (before after : List (Option (List Run)))
    (entries : List Entry)
    → list_from h x y ≡ entries → IsSwept (Counts t) (Over arcs) (list_drive h) turn Begins (label_at before t) → TakesList Counts h x y before after → t < day
    → turn x < turn y → ((z : ℕ) → Over arcs y z → ⊥) → IsSwept (Counts t) (Over (arcs ++ arc_if entries x y)) (list_drive h) turn Begins (label_at after t)
by_list Counts h x y t turn Begins arcs before after [] is swept takes within rises fresh =
    subst (λ (ls : List (Option (List Run))). IsSwept (Counts t) (Over (arcs ++ [])) (list_drive h) turn Begins (label_at ls t)) (sym (takes.none is))
    (subst (λ (list : List Arc). IsSwept (Counts t) (Over list) (list_drive h) turn Begins (label_at before t)) (sym (append-nil arcs)) swept)
by_list Counts h x y t turn Begins arcs before after (entry ∷ entries) is swept takes within rises fresh =
    let some : list_from h x y ≢ [] = λ none. let e = sym is ∙ none in absurd (cc e) in
    let one = take_arc (Counts t) (Over arcs) (list_drive h) turn Begins (label_at before t) (label_at after t) x y swept fresh rises
    (takes.taken some t within) in
    swept_same (Counts t) (With (Over arcs) x y) (Over (arcs ++ (arc x y ∷ []))) (list_drive h) turn Begins (label_at after t) (over_more arcs x y)
    (with_of arcs x y) one

pub one_list : (Counts : ℕ → ℕ → ℕ → Type 0) (h : HierarchyValue) (x y t : ℕ) (turn : ℕ → ℕ) (Begins : ℕ → ℕ → Type 0) (arcs : List Arc) (before after : List (Option (List Run)))
    → IsSwept (Counts t) (Over arcs) (list_drive h) turn Begins (label_at before t) → TakesList Counts h x y before after → t < day
    → turn x < turn y → ((z : ℕ) → Over arcs y z → ⊥) → IsSwept (Counts t) (Over (arcs ++ arc_over h x y)) (list_drive h) turn Begins (label_at after t)
one_list Counts h x y t turn Begins arcs before after = by_list Counts h x y t turn Begins arcs before after (list_from h x y) refl

-- where the arcs of a rank start and end
pub ends_of : (entries : List Entry) (x y : ℕ) (a : Arc) → Contains (arc_if entries x y) a → (a.start ≡ x) × (a.end ≡ y)
ends_of [] x y a c = absurd (none_in_nil a c)
ends_of (entry ∷ entries) x y a c = elim (member_cases (arc x y) [] a c) [
  | inl same ↦ (sym (ap (λ (b : Arc). b.start) same), sym (ap (λ (b : Arc). b.end) same))
  | inr none ↦ absurd (none_in_nil a none)
]

pub up_starts : (h : HierarchyValue) (x : ℕ) (part : List ℕ) (a : Arc) → Contains (arcs_up h x part) a → (a.start ≡ x) × Contains part a.end
up_starts h x [] a c = absurd (none_in_nil a c)
up_starts h x (y ∷ part) a c = elim (Contains-append_cases (arc_over h x y) (arcs_up h x part) a c) [
  | inl first ↦ let e = ends_of (list_from h x y) x y a first in (e.0, subst (λ (n : ℕ). Contains (y ∷ part) n) (sym e.1) (here y part))
  | inr rest ↦ let e = up_starts h x part a rest in (e.0, there y part a.end e.1)
]

pub down_starts : (h : HierarchyValue) (x : ℕ) (part : List ℕ) (a : Arc) → Contains (arcs_down h x part) a → (a.end ≡ x) × Contains part a.start
down_starts h x [] a c = absurd (none_in_nil a c)
down_starts h x (y ∷ part) a c = elim (Contains-append_cases (arc_over h y x) (arcs_down h x part) a c) [
  | inl first ↦ let e = ends_of (list_from h y x) y x a first in (e.1, subst (λ (n : ℕ). Contains (y ∷ part) n) (sym e.0) (here y part))
  | inr rest ↦ let e = down_starts h x part a rest in (e.0, there y part a.start e.1)
]

-- no arc yet
pub spreads_none : (Counts : ℕ → ℕ → ℕ → Type 0) (h : HierarchyValue) (x : ℕ) (labels : List (Option (List Run))) → SpreadsTo Counts h x [] labels labels
spreads_none Counts h x labels = record {
  long = refl;
  sound = λ sound. sound;
  swept = λ from arcs below swept t within. subst
      (λ (list : List Arc). IsSwept (Counts t) (Over list) (list_drive h) (λ x. x) (BeginsAt from t) (label_at labels t)) (sym (append-nil arcs))
      (swept t within);
}

pub gathers_none : (Counts : ℕ → ℕ → ℕ → Type 0) (h : HierarchyValue) (x : ℕ) (labels : List (Option (List Run))) → GathersFrom Counts h x [] labels labels
gathers_none Counts h x labels = record {
  long = refl;
  sound = λ sound. sound;
  above = λ y c. absurd (none_in_nil y c);
  swept = λ ups arcs above swept t within. subst
      (λ (list : List Arc). IsSwept (Counts t) (Over list) (list_drive h) (λ x. h.network.nodes - x) (BeginsAs (label_at ups t)) (label_at labels t))
      (sym (append-nil arcs)) (swept t within);
}

up_more : (h : HierarchyValue) (x y : ℕ) (arcs : List Arc) (part : List ℕ)
    → (arcs ++ arcs_up h x part) ++ arc_over h x y ≡ arcs ++ arcs_up h x (part ++ (y ∷ []))
up_more h x y arcs part =
    append_assoc arcs (arcs_up h x part) (arc_over h x y)
    ∙ ap (λ (list : List Arc). arcs ++ list)
    (ap (λ (list : List Arc). arcs_up h x part ++ list) (sym (append-nil (arc_over h x y)))
    ∙ sym (flat_map-append (λ (z : ℕ). arc_over h x z) part (y ∷ [])))

down_more : (h : HierarchyValue) (x y : ℕ) (arcs : List Arc) (part : List ℕ)
    → (arcs ++ arcs_down h x part) ++ arc_over h y x ≡ arcs ++ arcs_down h x (part ++ (y ∷ []))
down_more h x y arcs part =
    append_assoc arcs (arcs_down h x part) (arc_over h y x)
    ∙ ap (λ (list : List Arc). arcs ++ list)
    (ap (λ (list : List Arc). arcs_down h x part ++ list) (sym (append-nil (arc_over h y x)))
    ∙ sym (flat_map-append (λ (z : ℕ). arc_over h z x) part (y ∷ [])))

-- one more arc
pub spreads_more : (Counts : ℕ → ℕ → ℕ → Type 0) (h : HierarchyValue) (x y : ℕ) (part : List ℕ) (before mid after : List (Option (List Run))) → x < y
    → SpreadsTo Counts h x part before mid → TakesList Counts h x y mid after
    → SpreadsTo Counts h x (part ++ (y ∷ [])) before after
spreads_more Counts h x y part before mid after lt spreads takes = record {
  long = takes.long ∙ spreads.long;
  sound = λ sound. takes.sound (spreads.sound sound);
  swept = λ from arcs below swept t within.
      let fresh : (z : ℕ) → Over (arcs ++ arcs_up h x part) y z → ⊥ = λ z c. elim (Contains-append_cases arcs (arcs_up h x part) (arc y z) c) [
        | inl old ↦ let less = below y z old in omega (arith, less, lt)
        | inr new ↦ let is = (up_starts h x part (arc y z) new).0 in omega (arith, is, lt)
      ] in
      let one = one_list Counts h x y t (λ x. x) (BeginsAt from t) (arcs ++ arcs_up h x part) mid after
      (spreads.swept from arcs below swept t within) takes within lt fresh in
      subst (λ (list : List Arc). IsSwept (Counts t) (Over list) (list_drive h) (λ x. x) (BeginsAt from t) (label_at after t)) (up_more h x y arcs part) one;
}

pub gathers_more : (Counts : ℕ → ℕ → ℕ → Type 0) (h : HierarchyValue) (x y : ℕ) (part : List ℕ) (before mid after : List (Option (List Run))) → x < y → y < h.network.nodes
    → GathersFrom Counts h x part before mid → TakesList Counts h y x mid after
    → GathersFrom Counts h x (part ++ (y ∷ [])) before after
gathers_more Counts h x y part before mid after lt below gathers takes = record {
  long = takes.long ∙ gathers.long;
  sound = λ sound. takes.sound (gathers.sound sound);
  above = λ z c. elim (Contains-append_cases part (y ∷ []) z c) [
    | inl old ↦ gathers.above z old
    | inr new ↦ elim (member_cases y [] z new) [ inl same ↦ omega (arith, same, lt) | inr none ↦ absurd (none_in_nil z none) ]
  ];
  swept = λ ups arcs above swept t within.
      let fresh : (z : ℕ) → Over (arcs ++ arcs_down h x part) x z → ⊥ = λ z c. elim (Contains-append_cases arcs (arcs_down h x part) (arc x z) c) [
        | inl old ↦ let less = above x z old in omega (arith, less)
        | inr new ↦ let less = gathers.above x (down_starts h x part (arc x z) new).1 in omega (arith, less)
      ] in
      let one = one_list Counts h y x t (λ x. h.network.nodes - x) (BeginsAs (label_at ups t)) (arcs ++ arcs_down h x part) mid after
      (gathers.swept ups arcs above swept t within) takes within (omega (arith, lt, below)) fresh in
      subst (λ (list : List Arc). IsSwept (Counts t) (Over list) (list_drive h) (λ x. h.network.nodes - x) (BeginsAs (label_at ups t)) (label_at after t))
      (down_more h x y arcs part) one;
}
