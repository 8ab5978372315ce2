-- Which ranks are joined is decided by search: what is not refuted holds.
use Rattle.std.proofs.Common.{◌≡◌, ◌<◌, ◌+◌, ℕ, zero, suc, List, [], ◌∷◌, ◌++◌, Option, Some, length, get_or, min, refl, sym, ◌∙◌, ap, subst, arith, inl, inr, ◌⊎◌}
use Rattle.std.specs.Prelude.{slice_get}
use Rattle.std.specs.List.{Contains}
use Rattle.std.proofs.lemmas.Bool.{cases_eq, cases_lt}
use Rattle.std.proofs.lemmas.Option.{same_Some}
use Rattle.cu_model.specs.declared.roads.RoadArc.{RoadArc}
use Rattle.cu_model.specs.Networks.{NetworkValue}
use Rattle.cu_model.specs.Orders.{OrderValue}
use Rattle.cu_model.proofs.OptionLaws.{none_is_some, some_cases}
use Rattle.cu_chordal.specs.Edges.{Adjacent, IsEdge, JoinedBelow, LinksRanks, PathBelow}
use Rattle.cu_chordal.specs.WrongParts.{AreHigherNeighbours}
use Rattle.cu_chordal.proofs.Joined.{cut_path, path_append, path_more}
use Rattle.cu_chordal.proofs.Linked.{road_within}
use Rattle.cu_chordal.proofs.Members.{here, there, member_cases, none_in_nil}

-- it holds, or it is refuted
abbrev pub Decided : Type 0 → Type 0
Decided P = P ⊎ (P → ⊥)

pub member_decided : (xs : List ℕ) (y : ℕ) → Decided (Contains xs y)
member_decided [] y = inr (none_in_nil y)
member_decided (x ∷ xs) y =
    elim (cases_eq x y) [
      | inl same ↦ inl (subst (Contains (x ∷ xs)) same (here x xs))
      | inr other ↦ elim (member_decided xs y) [
        | inl rest ↦ inl (there x xs y rest)
        | inr none ↦ inr (λ c. elim (member_cases x xs y c) [
          | inl same ↦ other same
          | inr rest ↦ none rest
        ])
      ]
    ]

pub some_decided : (o : Option ℕ) (x : ℕ) → Decided (o ≡ Some x)
some_decided o x =
    elim (some_cases o) [
      | inl none ↦ inr (none_is_some o x none)
      | inr some ↦ elim (cases_eq some.0 x) [
        | inl same ↦ inl (some.1 ∙ ap Some same)
        | inr other ↦ inr (λ e. other (same_Some some.0 x (sym some.1 ∙ e)))
      ]
    ]

pub both_decided : (P Q : Type 0) → Decided P → Decided Q → Decided (P × Q)
both_decided P Q (inl p) (inl q) = inl (p, q)
both_decided P Q (inl p) (inr off) = inr (λ both. off both.1)
both_decided P Q (inr off) q = inr (λ both. off both.0)

pub either_decided : (P Q : Type 0) → Decided P → Decided Q → Decided (P ⊎ Q)
either_decided P Q (inl p) q = inl (inl p)
either_decided P Q (inr off) (inl q) = inl (inr q)
either_decided P Q (inr off) (inr none) = inr (λ either. elim either [
  | inl p ↦ off p
  | inr q ↦ none q
])

below_decided : (P : ℕ → Type 0) → ((k : ℕ) → Decided (P k)) → (n : ℕ) → Decided ((k : ℕ) × (k < n) × P k)
below_decided P f zero = inr (λ c. omega (arith, c.1))
below_decided P f (suc n) =
    elim (f n) [
      | inl last ↦ inl (n, omega arith, last)
      | inr off ↦ elim (below_decided P f n) [
        | inl found ↦ inl (found.0, omega (arith, found.1), found.2)
        | inr none ↦ inr (λ c. elim (cases_eq c.0 n) [
          | inl same ↦ off (subst P same c.2)
          | inr other ↦ none (c.0, omega (arith, c.1, other), c.2)
        ])
      ]
    ]

module _ (g : NetworkValue) (o : OrderValue) where
  -- a road's ends, by rank
  road_ends : (a x y : ℕ) (arc : RoadArc) → slice_get g.arcs a ≡ Some arc → LinksRanks g o a x y → (slice_get o.rank_of arc.tail ≡ Some x) × (slice_get o.rank_of arc.head ≡ Some y)
  road_ends a x y arc at (u, v, (road, there, tail, head), low, high) =
      let same : arc ≡ road = same_Some arc road (sym at ∙ there) in (
        ap (λ (r : RoadArc). slice_get o.rank_of r.tail) same ∙ ap (slice_get o.rank_of) tail ∙ low,
        ap (λ (r : RoadArc). slice_get o.rank_of r.head) same ∙ ap (slice_get o.rank_of) head ∙ high,
      )

  link_decided : (x y a : ℕ) → Decided (LinksRanks g o a x y)
  link_decided x y a =
      elim (some_cases (slice_get g.arcs a)) [
        | inl none ↦ inr (λ p. none_is_some (slice_get g.arcs a) p.2.0 none p.2.1)
        | inr some ↦
            let arc : RoadArc = some.0 in
            elim (both_decided _ _ (some_decided (slice_get o.rank_of arc.tail) x) (some_decided (slice_get o.rank_of arc.head) y)) [
              | inl both ↦ inl (arc.tail, arc.head, (arc, some.1, refl, refl), both.0, both.1)
              | inr off ↦ inr (λ p. off (road_ends a x y arc some.1 p))
            ]
      ]

  pub between_within : (x y a : ℕ) → LinksRanks g o a x y ⊎ LinksRanks g o a y x → a < length g.arcs
  between_within x y a (inl p) = road_within g o a x y p
  between_within x y a (inr p) = road_within g o a y x p

  adjacent_decided : (x y : ℕ) → Decided (Adjacent g o x y)
  adjacent_decided x y =
      elim (below_decided (λ a. LinksRanks g o a x y ⊎ LinksRanks g o a y x) (λ a. either_decided _ _ (link_decided x y a) (link_decided y x a)) (length g.arcs)) [
        | inl found ↦ inl (found.0, found.2)
        | inr none ↦ inr (λ c. none (c.0, between_within x y c.0 c.1, c.1))
      ]

  -- a path of no inner rank, or one that is cut at the highest
  no_inner : (x : ℕ) (zs : List ℕ) (y : ℕ) → PathBelow g o 0 x zs y → Adjacent g o x y
  no_inner x [] y p = p
  no_inner x (z ∷ zs) y p = absurd (omega (arith, p.1))

  pub joined_decided : (m x y : ℕ) → Decided (JoinedBelow g o m x y)
  joined_decided zero x y =
      elim (adjacent_decided x y) [
        | inl next ↦ inl ([], next)
        | inr off ↦ inr (λ j. off (no_inner x j.0 y j.1))
      ]
  joined_decided (suc m) x y =
      elim (joined_decided m x y) [
        | inl stays ↦ inl (stays.0, path_more g o m (suc m) x stays.0 y (omega arith) stays.1)
        | inr apart ↦ elim (both_decided _ _ (joined_decided m x m) (joined_decided m m y)) [
          | inl (j, k) ↦ inl (
            j.0 ++ (m ∷ k.0),
            path_append g o (suc m) x m j.0 k.0 y (omega arith) (path_more g o m (suc m) x j.0 m (omega arith) j.1) (path_more g o m (suc m) m k.0 y (omega arith) k.1),
          )
          | inr off ↦ inr (λ j. elim (cut_path g o m x j.0 y j.1) [
            | inl stays ↦ apart stays
            | inr both ↦ off both
          ])
        ]
      ]

less_decided : (x y : ℕ) → Decided (x < y)
less_decided x y =
    elim (cases_lt x y) [
      | inl less ↦ inl less
      | inr least ↦ inr (λ less. omega (arith, less, least))
    ]

apart_decided : (x y : ℕ) → Decided (x ≡ y → ⊥)
apart_decided x y =
    elim (cases_eq x y) [
      | inl same ↦ inr (λ other. other same)
      | inr other ↦ inl other
    ]

pub edge_decided : (g : NetworkValue) (o : OrderValue) (x y : ℕ) → Decided (IsEdge g o x y)
edge_decided g o x y = both_decided _ _ (apart_decided x y) (joined_decided g o (min x y) x y)

-- what is not refuted, of a decided fact
pub not_refuted : (P : Type 0) → Decided P → ((P → ⊥) → ⊥) → P
not_refuted P (inl p) f = p
not_refuted P (inr off) f = absurd (f off)

pub neighbours_not_refuted : (g : NetworkValue) (o : OrderValue) (rank : ℕ) (part : List ℕ) → ((AreHigherNeighbours g o rank part → ⊥) → ⊥) → AreHigherNeighbours g o rank part
neighbours_not_refuted g o rank part f = record {
  rising = λ k h. not_refuted _ (less_decided (get_or part k 0) (get_or part (k + 1) 0)) (λ off. f (λ n. off (n.rising k h)));
  exact = λ y. (
    (λ c. not_refuted _ (both_decided _ _ (less_decided rank y) (edge_decided g o rank y)) (λ off. f (λ n. off ((n.exact y).0 c)))),
    (λ both. not_refuted _ (member_decided part y) (λ off. f (λ n. off ((n.exact y).1 both)))),
  );
}
