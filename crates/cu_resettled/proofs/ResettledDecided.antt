-- Whether an edit touches an edge is decided by search: over its roads, and over the middles below it.
use Rattle.std.proofs.Common.{◌≡◌, ◌<◌, ◌∙◌, ◌⊎◌, ℕ, zero, suc, List, Option, Some, None, length, refl, ap, subst, arith, inl, inr}
use Rattle.std.specs.Prelude.{slice_get}
use Rattle.std.proofs.lemmas.Bool.{cases_eq, cases_lt}
use Rattle.std.proofs.lemmas.Option.{same_Some}
use Rattle.cu_model.specs.declared.roads.RoadArc.{RoadArc}
use Rattle.cu_model.specs.declared.roads.Edit.{Edit}
use Rattle.cu_model.specs.declared.roads.Edit.TheVariants.{Set, Assign}
use Rattle.cu_model.specs.Networks.{NetworkValue}
use Rattle.cu_model.specs.Orders.{OrderValue}
use Rattle.cu_chordal.specs.Edges.{IsEdge, LinksRanks}
use Rattle.cu_chordal.proofs.Decided.{Decided, between_within, both_decided, edge_decided, either_decided, some_decided}
use Rattle.cu_interval.specs.Touching.{IsChanged, IsTouched, by_first, by_road, by_second}

some_below : (P : ℕ → Type 0) (n : ℕ) → ((k : ℕ) → k < n → Decided (P k)) → Decided ((k : ℕ) × (k < n) × P k)
some_below P zero each = inr (λ c. omega (arith, c.1))
some_below P (suc n) each =
    elim (each n (omega arith)) [
      | inl last ↦ inl (n, omega arith, last)
      | inr off ↦ elim (some_below P n (λ k lt. each k (omega (arith, lt)))) [
        | inl found ↦ inl (found.0, omega (arith, found.1), found.2)
        | inr none ↦ inr (λ c. elim (cases_eq c.0 n) [
          | inl same ↦ off (subst P same c.2)
          | inr other ↦ none (c.0, omega (arith, c.1, other), c.2)
        ])
      ]
    ]

-- a road from rank x to rank y
abbrev pub JoinsRanks : Option RoadArc → List ℕ → ℕ → ℕ → Type 0
JoinsRanks o ranks x y = (u v : ℕ) × ((arc : RoadArc) × (o ≡ Some arc) × (arc.tail ≡ u) × (arc.head ≡ v))
    × (slice_get ranks u ≡ Some x) × (slice_get ranks v ≡ Some y)

pub joins_decided : (o : Option RoadArc) (ranks : List ℕ) (x y : ℕ) → Decided (JoinsRanks o ranks x y)
joins_decided None ranks x y = inr (λ p. absurd (cc p.2.1))
joins_decided (Some arc) ranks x y =
    elim (both_decided _ _ (some_decided (slice_get ranks arc.tail) x) (some_decided (slice_get ranks arc.head) y)) [
      | inl both ↦ inl (arc.tail, arc.head, (arc, refl, refl, refl), both.0, both.1)
      | inr off ↦ inr (λ p. off (
          let (u, v, (road, there, tail, head), low, high) = p in
          let same : arc ≡ road = same_Some arc road there in (
            ap (λ (r : RoadArc). slice_get ranks r.tail) same ∙ ap (slice_get ranks) tail ∙ low,
            ap (λ (r : RoadArc). slice_get ranks r.head) same ∙ ap (slice_get ranks) head ∙ high,
          )))
    ]

abbrev HasProfile : Option RoadArc → ℕ → Type 0
HasProfile o profile = (arc : RoadArc) × (o ≡ Some arc) × (arc.profile ≡ profile)

profile_decided : (o : Option RoadArc) (profile : ℕ) → Decided (HasProfile o profile)
profile_decided None profile = inr (λ p. absurd (cc p.1))
profile_decided (Some arc) profile =
    elim (cases_eq arc.profile profile) [
      | inl same ↦ inl (arc, refl, same)
      | inr other ↦ inr (λ p. other (ap (λ (r : RoadArc). r.profile) (same_Some arc p.0 p.1) ∙ p.2))
    ]

changed_decided : (g : NetworkValue) (edit : Edit) (a : ℕ) → Decided (IsChanged g edit a)
changed_decided g (Set profile pieces) a = profile_decided (slice_get g.arcs a) profile
changed_decided g (Assign b profile) a = cases_eq a b

-- a changed road joins the two ranks
abbrev IsChangedBetween : NetworkValue → OrderValue → Edit → ℕ → ℕ → ℕ → Type 0
IsChangedBetween g o edit x y a = IsChanged g edit a × (LinksRanks g o a x y ⊎ LinksRanks g o a y x)

between_decided : (g : NetworkValue) (o : OrderValue) (edit : Edit) (x y a : ℕ) → Decided (IsChangedBetween g o edit x y a)
between_decided g o edit x y a =
    both_decided _ _ (changed_decided g edit a)
    (either_decided _ _ (joins_decided (slice_get g.arcs a) o.rank_of x y) (joins_decided (slice_get g.arcs a) o.rank_of y x))

-- the two ranks lie over a lower triangle from m with a touched side
abbrev IsOverTouched : NetworkValue → OrderValue → Edit → ℕ → ℕ → ℕ → Type 0
IsOverTouched g o edit x y m = (IsEdge g o m x × IsEdge g o m y) × (IsTouched g o edit m x ⊎ IsTouched g o edit m y)

module _ (g : NetworkValue) (o : OrderValue) (edit : Edit) where
  pub touched_rises : (x y : ℕ) → IsTouched g o edit x y → x < y
  touched_rises _ _ (by_road a x y changed links lt) = lt
  touched_rises _ _ (by_first m x y touched low lt first second) = lt
  touched_rises _ _ (by_second m x y touched low lt first second) = lt

  -- the three rules read back
  touched_cases : (x y : ℕ) → IsTouched g o edit x y
      → ((a : ℕ) × (a < length g.arcs) × IsChangedBetween g o edit x y a) ⊎ ((m : ℕ) × (m < x) × IsOverTouched g o edit x y m)
  touched_cases _ _ (by_road a x y changed links lt) = inl (a, between_within g o x y a links, (changed, links))
  touched_cases _ _ (by_first m x y touched low lt first second) = inr (m, low, ((first, second), inl touched))
  touched_cases _ _ (by_second m x y touched low lt first second) = inr (m, low, ((first, second), inr touched))

  over_touched : (x y m : ℕ) → m < x → x < y → IsOverTouched g o edit x y m → IsTouched g o edit x y
  over_touched x y m low lt (edges, inl touched) = by_first m x y touched low lt edges.0 edges.1
  over_touched x y m low lt (edges, inr touched) = by_second m x y touched low lt edges.0 edges.1

  -- by the middles, once it is decided of all lower edges
  over_decided : (x y : ℕ) → x < y → ((a : ℕ) × (a < length g.arcs) × IsChangedBetween g o edit x y a → ⊥)
      → ((m z : ℕ) → m < x → Decided (IsTouched g o edit m z)) → Decided (IsTouched g o edit x y)
  over_decided x y lt no_road lower =
      elim (some_below (IsOverTouched g o edit x y) x (λ m low.
      both_decided _ _ (both_decided _ _ (edge_decided g o m x) (edge_decided g o m y)) (either_decided _ _ (lower m x low) (lower m y low)))) [
        | inl found ↦ inl (over_touched x y found.0 found.1 lt found.2)
        | inr none ↦ inr (λ touched. elim (touched_cases x y touched) [
          | inl road ↦ no_road road
          | inr over ↦ none over
        ])
      ]

  decided_below : (n x y : ℕ) → x < n → Decided (IsTouched g o edit x y)
  decided_below zero x y less = absurd (omega (arith, less))
  decided_below (suc n) x y less =
      elim (cases_lt x y) [
        | inl lt ↦ elim (some_below (IsChangedBetween g o edit x y) (length g.arcs) (λ a inside. between_decided g o edit x y a)) [
          | inl road ↦ inl (by_road road.0 x y road.2.0 road.2.1 lt)
          | inr none ↦ over_decided x y lt none (λ m z low. decided_below n m z (omega (arith, low, less)))
        ]
        | inr ge ↦ inr (λ touched. let lt = touched_rises x y touched in omega (arith, ge, lt))
      ]

  -- two ranks are touched, or they are not
  pub touched_decided : (x y : ℕ) → Decided (IsTouched g o edit x y)
  touched_decided x y = decided_below (suc x) x y (omega arith)
