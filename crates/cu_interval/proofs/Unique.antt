-- There is one first way, and one list of the runs of first ways.
use Rattle.std.proofs.Common.{◌≡◌, ◌∙◌, ℕ, List, [], ◌∷◌, Some, refl, sym, ap, arith, inl, inr}
use Rattle.std.specs.Option.{option_map}
use Rattle.cu_model.proofs.Begun.{starts_begun}
use Rattle.cu_interval.specs.declared.ways.Way.{Way}
use Rattle.cu_interval.specs.declared.ways.Way.TheVariants.{Road, Via}
use Rattle.cu_interval.specs.declared.ways.Entry.{Entry}
use Rattle.cu_interval.specs.WayLists.{GoesFirst, IsFirstEarliest, IsRunsOf, IsWayList, way_in}
use Rattle.cu_interval.proofs.Spelled.{same_list}

not_both : (v w : Way) → GoesFirst v w → GoesFirst w v → ⊥
not_both (Road a) (Road b) p q = omega (arith, p, q)
not_both (Road a) (Via m) p q = q
not_both (Via m) (Road a) p q = p
not_both (Via m) (Via n) p q = omega (arith, p, q)

-- two ways that are both first are the same
pub first_unique : (C : Way → Type 0) (A : Way → ℕ → Type 0) (v w : Way) → IsFirstEarliest C A v → IsFirstEarliest C A w → v ≡ w
first_unique C A v w f g =
    elim (f.first w g.arrival g.candidate g.arrives) [
      | inl less ↦ elim (g.first v f.arrival f.candidate f.arrives) [
        | inl more ↦ absurd (omega (arith, less, more))
        | inr tie ↦ absurd (let same = tie.0 in omega (arith, less, same))
      ]
      | inr tie ↦ elim tie.1 [
        | inl same ↦ same
        | inr before ↦ elim (g.first v f.arrival f.candidate f.arrives) [
          | inl more ↦ absurd (let same = tie.0 in omega (arith, more, same))
          | inr other ↦ elim other.1 [
            | inl same ↦ sym same
            | inr after ↦ absurd (not_both v w before after)
          ]
        ]
      ]
    ]

-- in a way list that isn't empty some way is in force at every second
pub some_way : (e : Entry) (es : List Entry) (s : ℕ) → IsWayList (e ∷ es) → (w : Way) × (way_in (e ∷ es) s ≡ Some w)
some_way e es s f =
    let k = starts_begun (λ (entry : Entry). entry.from) (e ∷ es) s (ap Some f.begins) in
    (k.0.way, ap (option_map (λ (entry : Entry). entry.way)) k.1)

-- two lists of the runs of the same first ways are equal
pub runs_unique : (C : Way → Type 0) (A : ℕ → Way → ℕ → Type 0) (xs ys : List Entry) → IsRunsOf C A xs → IsRunsOf C A ys → xs ≡ ys
runs_unique C A [] [] f g = refl
runs_unique C A [] (y ∷ ys) f g =
    let k = some_way y ys 0 g.spelled in
    absurd (f.none refl k.0 (g.first 0 k.0 (omega arith) k.1).candidate)
runs_unique C A (x ∷ xs) [] f g =
    let k = some_way x xs 0 f.spelled in
    absurd (g.none refl k.0 (f.first 0 k.0 (omega arith) k.1).candidate)
runs_unique C A (x ∷ xs) (y ∷ ys) f g =
    same_list (x ∷ xs) (y ∷ ys) f.spelled g.spelled (λ s lt.
    let p = some_way x xs s f.spelled in
    let q = some_way y ys s g.spelled in
    let same = first_unique C (A s) p.0 q.0 (f.first s p.0 lt p.1) (g.first s q.0 lt q.1) in
    p.1 ∙ ap Some same ∙ sym q.1)
