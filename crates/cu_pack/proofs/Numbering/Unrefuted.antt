-- What is not refuted holds, of facts that can be decided.
use Rattle.std.proofs.Common.{◌≡◌, ◌≤◌, ◌<◌, ◌+◌, ℕ, List, [], ◌∷◌, Bool, true, false, Option, Some, None, get_or, refl, sym, ◌∙◌, ap, arith, inl, inr}
use Rattle.std.specs.Prelude.{slice_get, ◌==◌, ◌&&◌}
use Rattle.std.specs.List.{list_any}
use Rattle.std.proofs.lemmas.Bool.{and_from, and_parts, cases_Bool, cases_eq, cases_lt, eq-eqb, eqb-true}
use Rattle.std.proofs.lemmas.List.{get_or_default}
use Rattle.std.proofs.lemmas.List.Folds.{Any-from_list_any, list_any_at}
use Rattle.std.proofs.lemmas.Option.{same_Some}
use Rattle.cu_model.specs.declared.profiles.Piece.{Piece}
use Rattle.cu_model.specs.declared.roads.RoadArc.{RoadArc}
use Rattle.cu_model.specs.Networks.{NetworkValue}
use Rattle.cu_model.specs.Orders.{OrderValue}
use Rattle.cu_model.specs.Profiles.{IsProfile, is_closed_piece, is_in_limit, profile_value}
use Rattle.cu_model.specs.Roads.{is_closed_arc}
use Rattle.cu_model.proofs.OptionLaws.{some_cases, none_is_some}
use Rattle.cu_chordal.specs.declared.graph.Ends.{Ends}
use Rattle.cu_chordal.specs.Graphs.{HasEdge}
use Rattle.cu_interval.specs.declared.ways.Entry.{Entry}
use Rattle.cu_interval.specs.declared.ways.Way.{Way}
use Rattle.cu_interval.specs.declared.ways.Way.TheVariants.{Road, Via}
use Rattle.cu_interval.specs.Hierarchies.{HierarchyValue, IsWellFormed}
use Rattle.cu_interval.specs.Low.{LeadsRanks}
use Rattle.cu_interval.specs.WayLists.{BeginsAtZero, IsWayList}

abbrev pub Unrefuted : Type 0 → Type 0
Unrefuted P = (P → ⊥) → ⊥

-- what follows from a fact that is not refuted is not refuted
follows : {P Q : Type 0} → Unrefuted P → (P → Q) → Unrefuted Q
follows f on = λ off. f (λ p. off (on p))

pub same_unrefuted : (x y : ℕ) → Unrefuted (x ≡ y) → x ≡ y
same_unrefuted x y f =
    elim (cases_eq x y) [
      | inl same ↦ same
      | inr other ↦ absurd (f other)
    ]

-- what is wrong of two numbers is refuted
pub less_else : (x y : ℕ) → (y ≤ x → ⊥) → x < y
less_else x y off =
    elim (cases_lt x y) [
      | inl less ↦ less
      | inr least ↦ absurd (off least)
    ]

pub least_else : (x y : ℕ) → (y < x → ⊥) → x ≤ y
least_else x y off =
    elim (cases_lt y x) [
      | inl less ↦ absurd (off less)
      | inr least ↦ least
    ]

less_unrefuted : (x y : ℕ) → Unrefuted (x < y) → x < y
less_unrefuted x y f = less_else x y (λ least. f (λ less. omega (arith, least, less)))

least_unrefuted : (x y : ℕ) → Unrefuted (x ≤ y) → x ≤ y
least_unrefuted x y f = least_else x y (λ less. f (λ least. omega (arith, less, least)))

bool_unrefuted : (b c : Bool) → Unrefuted (b ≡ c) → b ≡ c
bool_unrefuted true true f = refl
bool_unrefuted true false f = absurd (f (λ e. cc))
bool_unrefuted false true f = absurd (f (λ e. cc))
bool_unrefuted false false f = refl

some_unrefuted : (o : Option ℕ) (x : ℕ) → Unrefuted (o ≡ Some x) → o ≡ Some x
some_unrefuted None x f = absurd (f (λ e. cc))
some_unrefuted (Some y) x f = ap Some (same_unrefuted y x (follows f (same_Some y x)))

pub profile_unrefuted : (pieces : List Piece) → Unrefuted (IsProfile pieces) → IsProfile pieces
profile_unrefuted pieces f = record {
  limits = λ k d h. bool_unrefuted (is_in_limit (get_or pieces k d)) true (follows f (λ p. p.limits k d h));
  starts = some_unrefuted _ 0 (follows f (λ p. p.starts));
  rises = λ k d h. less_unrefuted _ _ (follows f (λ p. p.rises k d h));
  alone = λ many k d h. bool_unrefuted (is_closed_piece (get_or pieces k d)) false (follows f (λ p. p.alone many k d h));
  onward = λ s h. least_unrefuted s (profile_value pieces s) (follows f (λ p. p.onward s h));
  fifo = λ s h. least_unrefuted (profile_value pieces s) (profile_value pieces (s + 1)) (follows f (λ p. p.fifo s h));
}

begins_unrefuted : (entries : List Entry) → Unrefuted (BeginsAtZero entries) → BeginsAtZero entries
begins_unrefuted [] f = tt
begins_unrefuted (entry ∷ entries) f = same_unrefuted entry.from 0 f

pub way_list_unrefuted : (entries : List Entry) → Unrefuted (IsWayList entries) → IsWayList entries
way_list_unrefuted entries f = record {
  begins = begins_unrefuted entries (follows f (λ w. w.begins));
  within = λ k d h. less_unrefuted _ _ (follows f (λ w. w.within k d h));
  turns = λ k d h. (less_unrefuted _ _ (follows f (λ w. (w.turns k d h).0)), λ same. f (λ w. (w.turns k d h).1 same));
}

-- a road that is there leads from its tail to its head, if anywhere
pub leads_from : (g : NetworkValue) (o : OrderValue) (a u v : ℕ) (arc : RoadArc) → slice_get g.arcs a ≡ Some arc → LeadsRanks g o a u v
    → (is_closed_arc g a ≡ false) × (slice_get o.rank_of arc.tail ≡ Some u) × (slice_get o.rank_of arc.head ≡ Some v)
leads_from g o a u v arc at (x, y, ((road, there, tail, head), driven), low, high) =
    let same : arc ≡ road = same_Some arc road (sym at ∙ there) in (
      driven,
      ap (λ (r : RoadArc). slice_get o.rank_of r.tail) same ∙ ap (slice_get o.rank_of) tail ∙ low,
      ap (λ (r : RoadArc). slice_get o.rank_of r.head) same ∙ ap (slice_get o.rank_of) head ∙ high,
    )

leads_unrefuted : (g : NetworkValue) (o : OrderValue) (a u v : ℕ) → Unrefuted (LeadsRanks g o a u v) → LeadsRanks g o a u v
leads_unrefuted g o a u v f =
    elim (some_cases (slice_get g.arcs a)) [
      | inl none ↦ absurd (f (λ p. none_is_some (slice_get g.arcs a) p.2.0.0 none p.2.0.1))
      | inr some ↦
          let arc : RoadArc = some.0 in
          let all : LeadsRanks g o a u v → (is_closed_arc g a ≡ false) × (slice_get o.rank_of arc.tail ≡ Some u) × (slice_get o.rank_of arc.head ≡ Some v) = leads_from g o a u v arc some.1 in (
            arc.tail,
            arc.head,
            ((arc, some.1, refl, refl), bool_unrefuted (is_closed_arc g a) false (follows f (λ p. (all p).0))),
            some_unrefuted (slice_get o.rank_of arc.tail) u (follows f (λ p. (all p).1)),
            some_unrefuted (slice_get o.rank_of arc.head) v (follows f (λ p. (all p).2)),
          )
    ]

abbrev is_edge : ℕ → ℕ → Ends → Bool
is_edge low high ends = ends.low == low && ends.high == high

edge_from_test : (low high : ℕ) (ends : Ends) → is_edge low high ends ≡ true → ends ≡ record { low = low; high = high }
edge_from_test low high ends h =
    let both = and_parts (ends.low == low) (ends.high == high) h in
    let one : ends.low ≡ low = eqb-true ends.low low both.0 in
    let two : ends.high ≡ high = eqb-true ends.high high both.1 in
    let at : ℕ → ℕ → Ends = λ l h. record { low = l; high = h } in
    ap (λ l. at l ends.high) one ∙ ap (at low) two

test_from_edge : (low high : ℕ) (ends : Ends) → ends ≡ record { low = low; high = high } → is_edge low high ends ≡ true
test_from_edge low high ends h =
    let one : ends.low ≡ low = ap (λ (e : Ends). e.low) h in
    let two : ends.high ≡ high = ap (λ (e : Ends). e.high) h in
    and_from (ends.low == low) (ends.high == high) (eq-eqb ends.low low one) (eq-eqb ends.high high two)

has_edge_unrefuted : (edges : List Ends) (low high : ℕ) → Unrefuted (HasEdge edges low high) → HasEdge edges low high
has_edge_unrefuted edges low high f =
    let edge : Ends = record { low = low; high = high } in
    elim (cases_Bool (list_any (is_edge low high) edges)) [
      | inl some ↦
          let found = Any-from_list_any (is_edge low high) edges some in
          let same : found.1 ≡ edge = edge_from_test low high found.1 found.4 in
          (found.0, found.2, get_or_default edges found.0 edge found.1 found.2 ∙ found.3 ∙ same)
      | inr none ↦ absurd (f (λ c. let some = list_any_at (is_edge low high) edges c.0 edge c.1 (test_from_edge low high (get_or edges c.0 edge) c.2) in absurd (cc)))
    ]

pub well_formed_unrefuted : (h : HierarchyValue) (u v : ℕ) (way : Way) → Unrefuted (IsWellFormed h u v way) → IsWellFormed h u v way
well_formed_unrefuted h u v (Road a) f = leads_unrefuted h.network h.order a u v f
well_formed_unrefuted h u v (Via m) f = (
  less_unrefuted m u (follows f (λ w. w.0)),
  less_unrefuted m v (follows f (λ w. w.1)),
  has_edge_unrefuted h.edges m u (follows f (λ w. w.2)),
  has_edge_unrefuted h.edges m v (follows f (λ w. w.3)),
  λ none. f (λ w. w.4 none),
  λ none. f (λ w. w.5 none),
)
