-- A walk below a bound can be made simple, and arrives no later.
use Rattle.std.proofs.Common.{◌≡◌, ◌≤◌, ◌<◌, ◌+◌, ℕ, List, [], ◌∷◌, length, refl, sym, subst, arith, inl, inr, true, false, Bool, eqb}
use Rattle.std.specs.Prelude.{◌||◌}
use Rattle.std.specs.List.{list_any, IsDistinct, AllByRecursion}
use Rattle.std.proofs.lemmas.Bool.{cases_Bool, eqb-true, or_cases}
use Rattle.std.proofs.lemmas.Map.Steps.{length-le_from_distinct_below}
use Rattle.cu_model.specs.Networks.{NetworkValue, IsNetwork}
use Rattle.cu_model.specs.Orders.{OrderValue}
use Rattle.cu_model.specs.Roads.{drive, arc_value}
use Rattle.cu_model.proofs.OrderLaws.{none_pass}
use Rattle.cu_interval.specs.Low.{LeadsRanks, WalkBelow}
use Rattle.cu_interval.proofs.Walks.{below-fifo, leads-onward}

-- a walk below a bound, with its inner ranks
abbrev pub Through : NetworkValue → OrderValue → ℕ → ℕ → List ℕ → List ℕ → ℕ → Type 0
Through g o m u [] xs v = ⊥
Through g o m u (a ∷ []) xs v = LeadsRanks g o a u v × (xs ≡ [])
Through g o m u (a ∷ b ∷ w) [] v = ⊥
Through g o m u (a ∷ b ∷ w) (x ∷ xs) v = LeadsRanks g o a u x × (x < m) × Through g o m x (b ∷ w) xs v

-- a walk no later whose inner ranks are different, and so no more than m + 1 roads
pub record IsSimple (g : NetworkValue) (o : OrderValue) (m u : ℕ) (w : List ℕ) (v : ℕ) : Type 0 where
  pub arcs : List ℕ
  pub inner : List ℕ
  pub through : Through g o m u arcs inner v
  pub different : IsDistinct eqb inner
  pub few : length arcs ≤ m + 1
  pub no_later : (t : ℕ) → drive g arcs t ≤ drive g w t

module _ (g : NetworkValue) (o : OrderValue) (m : ℕ) where
  pub through_below : (u : ℕ) (w xs : List ℕ) (v : ℕ) → Through g o m u w xs v → WalkBelow g o m u w v
  through_below u [] xs v h = absurd h
  through_below u (a ∷ []) xs v h = h.0
  through_below u (a ∷ b ∷ w) [] v h = absurd h
  through_below u (a ∷ b ∷ w) (x ∷ xs) v h = (x, h.0, h.1, through_below x (b ∷ w) xs v h.2)

  through_step : (x a u : ℕ) (w xs : List ℕ) (v : ℕ) → x < m → LeadsRanks g o a u x → Through g o m x w xs v → Through g o m u (a ∷ w) (x ∷ xs) v
  through_step x a u [] xs v lt j h = absurd h
  through_step x a u (b ∷ w) xs v lt j h = (j, lt, h)

  pub inner_below : (u : ℕ) (w xs : List ℕ) (v q : ℕ) → Through g o m u w xs v → list_any (eqb q) xs ≡ true → q < m
  inner_below u [] xs v q h e = absurd h
  inner_below u (a ∷ []) xs v q h e = absurd (go xs h.1 e)
    where
      go : (xs : List ℕ) → xs ≡ [] → list_any (eqb q) xs ≡ true → ⊥
      go [] n e = cc e
      go (x ∷ xs) n e = cc n
  inner_below u (a ∷ b ∷ w) [] v q h e = absurd h
  inner_below u (a ∷ b ∷ w) (x ∷ xs) v q h e =
      elim (or_cases (eqb q x) (list_any (eqb q) xs) e) [
        | inl here ↦ subst (λ (k : ℕ). k < m) (sym (eqb-true q x here)) h.1
        | inr there ↦ inner_below x (b ∷ w) xs v q h.2 there
      ]

  inner_length : (u : ℕ) (w xs : List ℕ) (v : ℕ) → Through g o m u w xs v → length w ≡ length xs + 1
  inner_length u [] xs v h = absurd h
  inner_length u (a ∷ []) xs v h = rw h.1 refl
  inner_length u (a ∷ b ∷ w) [] v h = absurd h
  inner_length u (a ∷ b ∷ w) (x ∷ xs) v h = omega (arith, inner_length x (b ∷ w) xs v h.2)

  pub bound : (u : ℕ) (w xs : List ℕ) (v : ℕ) → Through g o m u w xs v → IsDistinct eqb xs → length w ≤ m + 1
  bound u w xs v h d =
      let n = length-le_from_distinct_below xs m d (λ q e. inner_below u w xs v q h e) in
      let l = inner_length u w xs v h in
      omega (arith, n, l)

-- from an inner rank on
record Rest (g : NetworkValue) (o : OrderValue) (m x : ℕ) (w : List ℕ) (v : ℕ) : Type 0 where
  arcs : List ℕ
  inner : List ℕ
  through : Through g o m x arcs inner v
  different : IsDistinct eqb (x ∷ inner)
  no_later : (t : ℕ) → drive g arcs t ≤ drive g w t

drop_to : (g : NetworkValue) (o : OrderValue) → IsNetwork g → (m x u : ℕ) (w xs : List ℕ) (v : ℕ) → Through g o m u w xs v → IsDistinct eqb xs → list_any (eqb x) xs ≡ true → Rest g o m x w v
unfolding IsDistinct
drop_to g o f m x u [] xs v h d e = absurd h
drop_to g o f m x u (a ∷ []) xs v h d e = absurd (go xs h.1 e)
  where
    go : (xs : List ℕ) → xs ≡ [] → list_any (eqb x) xs ≡ true → ⊥
    go [] n e = cc e
    go (y ∷ xs) n e = cc n
drop_to g o f m x u (a ∷ b ∷ w) [] v h d e = absurd h
drop_to g o f m x u (a ∷ b ∷ w) (y ∷ ys) v h d e =
    let j = h.0 in
    elim (cases_Bool (eqb x y)) [
      | inl here ↦
          let same = eqb-true x y here in
          record {
            arcs = b ∷ w;
            inner = ys;
            through = subst (λ (k : ℕ). Through g o m k (b ∷ w) ys v) (sym same) h.2;
            different = subst (λ (k : ℕ). IsDistinct eqb (k ∷ ys)) (sym same) d;
            no_later = λ t. below-fifo g o f m y (b ∷ w) v t (arc_value g a t) (through_below g o m y (b ∷ w) ys v h.2) (leads-onward g o f a u y t j);
          }
      | inr other ↦
          let there : list_any (eqb x) ys ≡ true = rw other at e in
          let r = drop_to g o f m x y (b ∷ w) ys v h.2 d.1 there in
          record {
            arcs = r.arcs;
            inner = r.inner;
            through = r.through;
            different = r.different;
            no_later = λ t.
                let rise = below-fifo g o f m y (b ∷ w) v t (arc_value g a t) (through_below g o m y (b ∷ w) ys v h.2) (leads-onward g o f a u y t j) in
                let more = r.no_later t in
                omega (arith, rise, more);
          }
    ]

pub simple : (g : NetworkValue) (o : OrderValue) → IsNetwork g → (m u : ℕ) (w : List ℕ) (v : ℕ) → WalkBelow g o m u w v → IsSimple g o m u w v
unfolding IsDistinct
simple g o f m u [] v h = absurd h
simple g o f m u (a ∷ []) v h = record { arcs = a ∷ []; inner = []; through = (h, refl); different = tt; few = omega arith; no_later = λ t. omega arith }
simple g o f m u (a ∷ b ∷ w) v h =
    let (x, j, lt, more) = h in
    let s = simple g o f m x (b ∷ w) v more in
    elim (cases_Bool (list_any (eqb x) s.inner)) [
      | inl again ↦
          let r = drop_to g o f m x x s.arcs s.inner v s.through s.different again in
          let t2 = through_step g o m x a u r.arcs r.inner v lt j r.through in
          record {
            arcs = a ∷ r.arcs;
            inner = x ∷ r.inner;
            through = t2;
            different = r.different;
            few = bound g o m u (a ∷ r.arcs) (x ∷ r.inner) v t2 r.different;
            no_later = λ t.
                let p = r.no_later (arc_value g a t) in
                let q = s.no_later (arc_value g a t) in
                omega (arith, p, q);
          }
      | inr new ↦
          let t2 = through_step g o m x a u s.arcs s.inner v lt j s.through in
          let d2 : IsDistinct eqb (x ∷ s.inner) = (none_pass x s.inner new, s.different) in
          record {
            arcs = a ∷ s.arcs;
            inner = x ∷ s.inner;
            through = t2;
            different = d2;
            few = bound g o m u (a ∷ s.arcs) (x ∷ s.inner) v t2 d2;
            no_later = λ t. s.no_later (arc_value g a t);
          }
    ]
