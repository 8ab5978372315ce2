-- In a built hierarchy an unpacked walk visits no rank twice, so no relaxation is too long.
use Rattle.std.proofs.Common.{◌≡◌, ◌≤◌, ◌<◌, ◌%◌, ◌∙◌, ℕ, zero, suc, Bool, List, [], ◌∷◌, ◌++◌, Some, refl, sym, ap, subst, arith, inl, inr, ◌⊎◌, eqb, min, true, false, length}
use Rattle.std.specs.Prelude.{◌||◌}
use Rattle.std.specs.List.{list_any, IsDistinct, AllByRecursion}
use Rattle.std.proofs.Math.Nat.{min-eq_left, min-eq_right}
use Rattle.std.proofs.lemmas.Bool.{eqb-true, or_cases}
use Rattle.cu_model.specs.Networks.{NetworkValue}
use Rattle.cu_model.specs.Orders.{OrderValue}
use Rattle.cu_model.specs.Days.{day}
use Rattle.cu_model.specs.Roads.{drive}
use Rattle.cu_model.proofs.OrderLaws.{none_pass}
use Rattle.cu_model.proofs.RoadLaws.{drive-append}
use Rattle.cu_interval.specs.declared.ways.Way.{Way}
use Rattle.cu_interval.specs.declared.ways.Way.TheVariants.{Road, Via}
use Rattle.cu_interval.specs.Low.{IsLowWalk, HasLowWalk}
use Rattle.cu_interval.specs.FirstWays.{IsFirstWay}
use Rattle.cu_interval.specs.Hierarchies.{HierarchyValue, IsBuilt, list_from, way_from}
use Rattle.cu_interval.specs.Unpacking.{unpacked, unpacked_walk, unpacked_way}
use Rattle.cu_interval.proofs.BuiltWalks.{has_least, own_walk, right_below}
use Rattle.cu_interval.proofs.Days.{built_first}
use Rattle.cu_interval.proofs.Fuel.{unpacked-via}
use Rattle.cu_interval.proofs.HalfLaws.{halves_apart}
use Rattle.cu_interval.proofs.Lookups.{middles_fall}
use Rattle.cu_interval.proofs.Simple.{Through, bound, inner_below}
use Rattle.cu_interval.proofs.Unpacked.{list_from_spelled, way_there}

or_true : (b : Bool) → (b || true) ≡ true
or_true true = refl
or_true false = refl

any_append : (z : ℕ) (xs ys : List ℕ) → list_any (eqb z) (xs ++ ys) ≡ true → (list_any (eqb z) xs ≡ true) ⊎ (list_any (eqb z) ys ≡ true)
any_append z [] ys e = inr e
any_append z (x ∷ xs) ys e =
    elim (or_cases (eqb z x) (list_any (eqb z) (xs ++ ys)) e) [
      | inl here ↦ inl (rw here refl)
      | inr there ↦ elim (any_append z xs ys there) [
        | inl p ↦ inl (rw p (or_true (eqb z x)))
        | inr q ↦ inr q
      ]
    ]

not_any : (x : ℕ) (xs : List ℕ) → AllByRecursion (λ y. eqb x y ≡ false) xs → list_any (eqb x) xs ≡ true → ⊥
not_any x [] f e = cc e
not_any x (y ∷ ys) f e =
    elim (or_cases (eqb x y) (list_any (eqb x) ys) e) [
      | inl here ↦ let other = f.0 in cc (other, here)
      | inr there ↦ not_any x ys f.1 there
    ]

any_head : (x : ℕ) (xs : List ℕ) → list_any (eqb x) (x ∷ xs) ≡ true
any_head x xs = let same : eqb x x ≡ true = grind arith in rw same refl

any_tail : (z x : ℕ) (xs : List ℕ) → list_any (eqb z) xs ≡ true → list_any (eqb z) (x ∷ xs) ≡ true
any_tail z x xs p = rw p (or_true (eqb z x))

not_true : (b : Bool) → (b ≡ true → ⊥) → b ≡ false
not_true true f = absurd (f refl)
not_true false f = refl

distinct_join : (m : ℕ) (xs ys : List ℕ) → IsDistinct eqb xs → IsDistinct eqb ys → ((z : ℕ) → list_any (eqb z) xs ≡ true → z < m) → ((z : ℕ) → list_any (eqb z) ys ≡ true → z < m)
    → ((z : ℕ) → list_any (eqb z) xs ≡ true → list_any (eqb z) ys ≡ true → ⊥) → IsDistinct eqb (xs ++ (m ∷ ys))
unfolding IsDistinct
distinct_join m [] ys d e a b apart = (none_pass m ys (not_true (list_any (eqb m) ys) (λ p. let lt = b m p in omega (arith, lt))), e)
distinct_join m (x ∷ xs) ys d e a b apart = (
  none_pass x (xs ++ (m ∷ ys)) (not_true (list_any (eqb x) (xs ++ (m ∷ ys))) (λ p.
      elim (any_append x xs (m ∷ ys) p) [
        | inl q ↦ not_any x xs d.0 q
        | inr q ↦ elim (or_cases (eqb x m) (list_any (eqb x) ys) q) [
          | inl here ↦ let same = eqb-true x m here in let lt = a x (any_head x xs) in omega (arith, same, lt)
          | inr there ↦ apart x (any_head x xs) there
        ]
      ])),
  distinct_join m xs ys d.1 e (λ z p. a z (any_tail z x xs p)) b (λ z p q. apart z (any_tail z x xs p) q),
)

through_more : (g : NetworkValue) (o : OrderValue) (m n u : ℕ) (w xs : List ℕ) (v : ℕ) → m ≤ n → Through g o m u w xs v → Through g o n u w xs v
through_more g o m n u [] xs v le h = h
through_more g o m n u (a ∷ []) xs v le h = h
through_more g o m n u (a ∷ b ∷ w) [] v le h = h
through_more g o m n u (a ∷ b ∷ w) (x ∷ xs) v le h = let lt = h.1 in (h.0, omega (arith, lt, le), through_more g o m n x (b ∷ w) xs v le h.2)

through_append : (g : NetworkValue) (o : OrderValue) (n u x : ℕ) (w xs : List ℕ) (w2 ys : List ℕ) (v : ℕ) → x < n → Through g o n u w xs x
    → Through g o n x w2 ys v → Through g o n u (w ++ w2) (xs ++ (x ∷ ys)) v
through_append g o n u x [] xs w2 ys v lt h k = absurd h
through_append g o n u x (a ∷ []) [] [] ys v lt h k = absurd k
through_append g o n u x (a ∷ []) [] (b ∷ w2) ys v lt h k = (h.0, lt, k)
through_append g o n u x (a ∷ []) (y ∷ xs) w2 ys v lt h k = absurd (let empty = h.1 in cc empty)
through_append g o n u x (a ∷ b ∷ w) [] w2 ys v lt h k = absurd h
through_append g o n u x (a ∷ b ∷ w) (y ∷ xs) w2 ys v lt h k = (h.0, h.1, through_append g o n y x (b ∷ w) xs w2 ys v lt h.2 k)

-- the walk's inner ranks, all different
abbrev pub HasInner : HierarchyValue → ℕ → ℕ → ℕ → Type 0
HasInner h u v t = (xs : List ℕ) × Through h.network h.order (min u v) u (unpacked_walk h u v t) xs v × IsDistinct eqb xs

abbrev pub HaveInnerBelow : HierarchyValue → ℕ → Type 0
HaveInnerBelow h m = (x y t : ℕ) (w : List ℕ) → min x y < m → IsLowWalk h.network h.order x w y → HasInner h x y t

inner_by : (h : HierarchyValue) → IsBuilt h → (u v t : ℕ) → HaveInnerBelow h (min u v) → (way : Way) → way_from h u v t ≡ Some way → IsFirstWay h.network h.order u v t way → HasInner h u v t
unfolding IsDistinct
inner_by h f u v t lower (Road a) e first =
    let walk : unpacked_walk h u v t ≡ a ∷ [] = ap (unpacked_way h.network (unpacked h (min u v)) u v t) e in
    ([], subst (λ (w : List ℕ). Through h.network h.order (min u v) u w [] v) (sym walk) (first.candidate, refl), tt)
inner_by h f u v t lower (Via m) e first =
    let c = first.candidate in
    let mu = c.0 in
    let mv = c.1 in
    let w1 = unpacked_walk h u m t in
    let s = drive h.network w1 t in
    let w2 = unpacked_walk h m v s in
    let walk : unpacked_walk h u v t ≡ w1 ++ w2 = unpacked-via h (middles_fall h f.sound) u v t m e in
    let (xs, p, dx) = lower u m t c.2.0 (omega (arith, mu, mv)) c.2.1 in
    let (ys, q, dy) = lower m v s c.3.0 (omega (arith, mu, mv)) c.3.1 in
    let one = subst (λ (k : ℕ). Through h.network h.order k u w1 xs m) (min-eq_right (omega (arith, mu))) p in
    let two = subst (λ (k : ℕ). Through h.network h.order k m w2 ys v) (min-eq_left (omega (arith, mv))) q in
    let own = own_walk h f u v t (right_below h f (min u v)) (Via m) e first.arrival first.candidate first.arrives in
    let value : drive h.network w2 s ≡ first.arrival = sym (drive-append h.network w1 w2 t) ∙ sym (ap (λ (w : List ℕ). drive h.network w t) walk) ∙ own in
    let apart = halves_apart h.network h.order f.sound.network u v m t (has_least h (min u v) (right_below h f (min u v))) mu mv first w1 xs w2 ys one two value in
    let lt : m < min u v = omega (arith, mu, mv) in
    let le : m ≤ min u v = omega (arith, lt) in
    let joined = through_append h.network h.order (min u v) u m w1 xs w2 ys v lt (through_more h.network h.order m (min u v) u w1 xs m le one)
    (through_more h.network h.order m (min u v) m w2 ys v le two) in (
      xs ++ (m ∷ ys),
      subst (λ (w : List ℕ). Through h.network h.order (min u v) u w (xs ++ (m ∷ ys)) v) (sym walk) joined,
      distinct_join m xs ys dx dy (λ z i. inner_below h.network h.order m u w1 xs m z one i) (λ z i. inner_below h.network h.order m m w2 ys v z two i) apart,
    )

module _ (h : HierarchyValue) (f : IsBuilt h) where
  inner_below_all : (m : ℕ) → HaveInnerBelow h m
  inner_below_all zero x y t w lt l = absurd (omega (arith, lt))
  inner_below_all (suc m) x y t w lt l =
      let some = (right_below h f (suc m) x y w lt l).0 in
      let (way, e) = way_there (list_from h x y) (list_from_spelled h f.sound x y) some (t % day) in
      inner_by h f x y t (λ x2 y2 t2 w2 less l2. inner_below_all m x2 y2 t2 w2 (omega (arith, less, lt)) l2) way e (built_first h f x y t way e)

  -- the inner ranks of an unpacked walk are different
  pub built_simple : (u v t : ℕ) → HasLowWalk h.network h.order u v → HasInner h u v t
  built_simple u v t k = inner_below_all (suc (min u v)) u v t k.0 (omega arith) k.1

  -- so the walk has fewer roads than there are nodes
  pub built_short : (u v t : ℕ) → u < h.network.nodes → v < h.network.nodes → HasLowWalk h.network h.order u v → length (unpacked_walk h u v t) < h.network.nodes
  built_short u v t lu lv k =
      let (xs, through, different) = built_simple u v t k in
      let few = bound h.network h.order (min u v) u (unpacked_walk h u v t) xs v through different in
      let apart = k.1.0 in
      omega (arith, few, lu, lv, apart)
