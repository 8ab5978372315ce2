-- The last item that has begun, in a list whose items begin at later and later seconds.
use Rattle.std.proofs.Common.{◌≡◌, ◌≤◌, ◌<◌, ◌+◌, ◌-◌, ℕ, zero, suc, List, [], ◌∷◌, Option, Some, None, refl, subst, sym, ◌∙◌, arith, inl, inr, leb, length, get_or, true, false}
use Rattle.std.specs.Prelude.{slice_get}
use Rattle.std.specs.Option.{option_map}
use Rattle.std.specs.List.Sorted.{IsNonDecreasingBy, IsPartitionPoint}
use Rattle.std.proofs.lemmas.List.Sorted.{IsNonDecreasingBy-from_all_adjacent}
use Rattle.std.proofs.lemmas.Bool.{cases_lt}
use Rattle.std.proofs.lemmas.Bool.Decides.{nat_tests}
use Rattle.std.proofs.lemmas.Option.{slice_get-get_or, get_or_from_slice_get, slice_get_within}
use Rattle.cu_model.specs.Begun.{later_of, last_begun, Rises}

-- where no item has begun there is none
pub none_begun : {A : Type 0} (from : A → ℕ) (xs : List A) (s : ℕ) → ((k : ℕ) (x : A) → slice_get xs k ≡ Some x → leb (from x) s ≡ false) → last_begun from xs s ≡ None
none_begun from [] s late = refl
none_begun from (x ∷ xs) s late =
    let here : leb (from x) s ≡ false = late 0 x refl in
    let rest : last_begun from xs s ≡ None = none_begun from xs s (λ k y e. late (suc k) y e) in
    rw (here, rest) refl

-- where exactly the first items have begun, it is the last of these
pub last_begun-at : {A : Type 0} (from : A → ℕ) (xs : List A) (j s : ℕ) (x : A) → slice_get xs j ≡ Some x
    → ((k : ℕ) (y : A) → slice_get xs k ≡ Some y → k < suc j → leb (from y) s ≡ true)
    → ((k : ℕ) (y : A) → slice_get xs k ≡ Some y → suc j ≤ k → leb (from y) s ≡ false)
    → last_begun from xs s ≡ Some x
last_begun-at from [] j s x e low high = absurd (cc e)
last_begun-at from (y ∷ ys) zero s x e low high =
    let here : leb (from y) s ≡ true = low 0 y refl (omega arith) in
    let rest : last_begun from ys s ≡ None = none_begun from ys s (λ k z f. high (suc k) z f (omega arith)) in
    rw (here, rest) e
last_begun-at from (y ∷ ys) (suc j) s x e low high =
    let rest : last_begun from ys s ≡ Some x = last_begun-at from ys j s x e (λ k z f h. low (suc k) z f (omega (arith, h))) (λ k z f h. high (suc k) z f (omega (arith, h))) in
    rw rest refl

-- where the first item is from second 0, some item has begun at every second
pub later_some : {A : Type 0} (first : A) (second : Option A) → (x : A) × (later_of (Some first) second ≡ Some x)
later_some first None = (first, refl)
later_some first (Some second) = (second, refl)

pub starts_begun : {A : Type 0} (from : A → ℕ) (xs : List A) (s : ℕ) → option_map from (slice_get xs 0) ≡ Some 0 → (x : A) × (last_begun from xs s ≡ Some x)
starts_begun from [] s e = absurd (cc e)
starts_begun from (x ∷ xs) s e =
    let begins : from x ≡ 0 = cc e in
    let low : leb (from x) s ≡ true = grind (arith, begins) in
    let k = later_some x (last_begun from xs s) in
    (k.0, rw low k.1)

pub le_test : (a b : ℕ) → a ≤ b → leb a b ≡ true
le_test a b h = grind (arith, nat_tests)

pub gt_test : (a b : ℕ) → b < a → leb a b ≡ false
gt_test a b h = grind (arith, nat_tests)

module _ {A : Type 0} (from : A → ℕ) (xs : List A) (rises : Rises from xs) where
  -- such items come by their seconds
  pub in_order : IsNonDecreasingBy from xs
  in_order = IsNonDecreasingBy-from_all_adjacent from xs (λ k d h. let lt = rises k d h in omega (arith, lt))

  module _ (d : A) where
    -- the item of an index is from that second or a later one
    pub rises_far : (i : ℕ) → i < length xs → i ≤ from (get_or xs i d)
    rises_far zero h = omega arith
    rises_far (suc i) h =
        let before = rises_far i (omega (arith, h)) in
        let step = rises i d (omega (arith, h)) in
        let same : i + 1 ≡ suc i = omega arith in
        let step2 = subst (λ (j : ℕ). from (get_or xs i d) < from (get_or xs j d)) same step in
        omega (arith, before, step2)

    -- of two items the later one begins later
    pub rises_by : (i k : ℕ) → i + suc k < length xs → from (get_or xs i d) < from (get_or xs (i + suc k) d)
    rises_by i zero h =
        let same : i + 1 ≡ i + suc zero = omega arith in
        subst (λ (j : ℕ). from (get_or xs i d) < from (get_or xs j d)) same (rises i d (omega (arith, h)))
    rises_by i (suc k) h =
        let before = rises_by i k (omega (arith, h)) in
        let step = rises (i + suc k) d (omega (arith, h)) in
        let same : (i + suc k) + 1 ≡ i + suc (suc k) = omega arith in
        let step2 = subst (λ (j : ℕ). from (get_or xs (i + suc k) d) < from (get_or xs j d)) same step in
        omega (arith, before, step2)

    pub rises_between : (i j : ℕ) → i < j → j < length xs → from (get_or xs i d) < from (get_or xs j d)
    rises_between i j h inside =
        let same : i + suc (j - (i + 1)) ≡ j = omega (arith, h) in
        let within : i + suc (j - (i + 1)) < length xs = omega (arith, h, inside) in
        subst (λ (n : ℕ). from (get_or xs i d) < from (get_or xs n d)) same (rises_by i (j - (i + 1)) within)

    -- the item in force from its second until the next one's
    pub begun_until : (j s : ℕ) → j < length xs → from (get_or xs j d) ≤ s
        → (suc j < length xs → s < from (get_or xs (suc j) d)) → last_begun from xs s ≡ Some (get_or xs j d)
    begun_until j s inside begun next =
        last_begun-at from xs j s (get_or xs j d) (slice_get-get_or xs j d inside)
        (λ k y e h. let same : get_or xs k d ≡ y = get_or_from_slice_get xs k y d e in
        let before : from (get_or xs k d) ≤ s = elim (cases_lt k j) [
          | inl lt ↦ let order = rises_between k j lt inside in omega (arith, order, begun)
          | inr ge ↦ let eq : j ≡ k = omega (arith, ge, h) in subst (λ (i : ℕ). from (get_or xs i d) ≤ s) eq begun
        ] in
        le_test (from y) s (subst (λ (z : A). from z ≤ s) same before))
        (λ k y e h. let same : get_or xs k d ≡ y = get_or_from_slice_get xs k y d e in
        let within : k < length xs = slice_get_within xs k y e in
        let following : s < from (get_or xs (suc j) d) = next (omega (arith, h, within)) in
        let after : s < from (get_or xs k d) = elim (cases_lt (suc j) k) [
          | inl lt ↦ let order = rises_between (suc j) k lt within in omega (arith, order, following)
          | inr ge ↦ let eq : suc j ≡ k = omega (arith, ge, h) in subst (λ (i : ℕ). s < from (get_or xs i d)) eq following
        ] in
        gt_test (from y) s (subst (λ (z : A). s < from z) same after))

-- no more items than seconds
pub few_items : {A : Type 0} (from : A → ℕ) (n : ℕ) (xs : List A) → Rises from xs → ((i : ℕ) (d : A) → i < length xs → from (get_or xs i d) < n) → length xs ≤ n
few_items from n [] rises limits = omega arith
few_items from n (x ∷ xs) rises limits =
    let last = length xs in
    let inside : last < length (x ∷ xs) = omega arith in
    let far = rises_far from (x ∷ xs) rises x last inside in
    let limit = limits last x inside in
    omega (arith, far, limit)

-- what is known of the item before the first that has not begun
pub record IsLastBegun {A : Type 0} (from : A → ℕ) (xs : List A) (s i : ℕ) : Type 0 where
  pub within : i < length xs
  pub last : last_begun from xs s ≡ slice_get xs i
  pub begun : (x : A) × (slice_get xs i ≡ Some x) × (from x ≤ s)

test_le : (a b : ℕ) → leb a b ≡ true → a ≤ b
test_le a b h = grind (arith, nat_tests)

-- the search for the first item that has not begun finds one past the last that has
pub begun_point : {A : Type 0} (from : A → ℕ) (xs : List A) (s n : ℕ) → option_map from (slice_get xs 0) ≡ Some 0
    → IsPartitionPoint (λ (x : A). leb (from x) s ≡ true) (λ (x : A). leb (from x) s ≡ false) xs n → n ≤ length xs
    → (0 < n) × IsLastBegun from xs s (n - 1)
begun_point from [] s n starts point le = absurd (cc starts)
begun_point from (x ∷ xs) s zero starts point le =
    let late : leb (from x) s ≡ false = point.1 0 x (omega arith) (omega arith) in
    let begins : from x ≡ 0 = cc starts in
    let low : leb (from x) s ≡ true = grind (arith, begins) in
    absurd (cc (late, low))
begun_point {A} from (x ∷ xs) s (suc n) starts point le =
    let inside : n < length (x ∷ xs) = omega (arith, le) in
    let same : suc n - 1 ≡ n = omega arith in
    let there = slice_get-get_or (x ∷ xs) n x inside in
    let last : last_begun from (x ∷ xs) s ≡ Some (get_or (x ∷ xs) n x) = last_begun-at from (x ∷ xs) n s (get_or (x ∷ xs) n x) there
    (λ k q e h. subst (λ (y : A). leb (from y) s ≡ true) (get_or_from_slice_get (x ∷ xs) k q x e) (point.0 k x (omega arith) h))
    (λ k q e h. subst (λ (y : A). leb (from y) s ≡ false) (get_or_from_slice_get (x ∷ xs) k q x e) (point.1 k x h (slice_get_within (x ∷ xs) k q e))) in
    let begun : from (get_or (x ∷ xs) n x) ≤ s = test_le (from (get_or (x ∷ xs) n x)) s (point.0 n x (omega arith) (omega arith)) in
    let claim : IsLastBegun from (x ∷ xs) s n = record {
      within = inside;
      last = last ∙ sym there;
      begun = (get_or (x ∷ xs) n x, there, begun);
    } in
    (omega arith, subst (λ (i : ℕ). IsLastBegun from (x ∷ xs) s i) (sym same) claim)
