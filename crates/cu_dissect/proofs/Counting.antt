-- How many elements of a sorted list are below one of them.
use Rattle.std.proofs.Common.{◌≡◌, ◌≤◌, ◌<◌, ◌+◌, ◌-◌, ℕ, List, [], ◌∷◌, Bool, true, false, not, cond, map, length, take, drop, get_or, refl, sym, ◌∙◌, ap, subst, arith, inl, inr}
use Rattle.std.specs.Prelude.{All, count_by, nat_lt}
use Rattle.std.specs.Cmp.{IsStrictWeakOrder}
use Rattle.std.specs.List.Sorted.{IsSortedBy}
use Rattle.std.proofs.lemmas.Bool.{cases_Bool, lt-ltb, le-ltb}
use Rattle.std.proofs.lemmas.List.{length-take-le, length-drop, get_or-take, get_or-drop}
use Rattle.std.proofs.lemmas.List.Elements.{All-head, All-tail}
use Rattle.std.proofs.lemmas.List.Sorted.{sorted_far}
use Rattle.std.proofs.lemmas.List.Sums.{count_by-le-length, sum_by-cons, sum_by-take-drop}

abbrev one_if : Bool → ℕ
one_if b = cond b 1 0

pub count_all : {X : Type 0} (p : X → Bool) (xs : List X) → All (λ x. p x ≡ true) xs → count_by p xs ≡ length xs
count_all p [] all = refl
count_all {X} p (x ∷ xs) all =
    let rest = count_all p xs (All-tail (λ (y : X). p y ≡ true) x xs all) in
    let here : cond (p x) 1 0 ≡ 1 = ap one_if (All-head (λ (y : X). p y ≡ true) x xs all) in
    let more : count_by p (x ∷ xs) ≡ cond (p x) 1 0 + count_by p xs = sum_by-cons (λ (y : X). cond (p y) 1 0) x xs in
    omega (arith, rest, here, more)

pub count_none : {X : Type 0} (p : X → Bool) (xs : List X) → All (λ x. p x ≡ false) xs → count_by p xs ≡ 0
count_none p [] none = refl
count_none {X} p (x ∷ xs) none =
    let rest = count_none p xs (All-tail (λ (y : X). p y ≡ false) x xs none) in
    let here : cond (p x) 1 0 ≡ 0 = ap one_if (All-head (λ (y : X). p y ≡ false) x xs none) in
    let more : count_by p (x ∷ xs) ≡ cond (p x) 1 0 + count_by p xs = sum_by-cons (λ (y : X). cond (p y) 1 0) x xs in
    omega (arith, rest, here, more)

pub count_map : {X Y : Type 0} (f : X → Y) (p : Y → Bool) (xs : List X) → count_by p (map f xs) ≡ count_by (λ x. p (f x)) xs
count_map f p [] = refl
count_map {X} {Y} f p (x ∷ xs) =
    let left : count_by p (map f (x ∷ xs)) ≡ cond (p (f x)) 1 0 + count_by p (map f xs) = sum_by-cons (λ (y : Y). cond (p y) 1 0) (f x) (map f xs) in
    let right : count_by (λ y. p (f y)) (x ∷ xs) ≡ cond (p (f x)) 1 0 + count_by (λ y. p (f y)) xs = sum_by-cons (λ (y : X). cond (p (f y)) 1 0) x xs in
    omega (arith, count_map f p xs, left, right)

pub count_agree : {X : Type 0} (p q : X → Bool) (xs : List X) → ((x : X) → p x ≡ q x) → count_by p xs ≡ count_by q xs
count_agree p q [] same = refl
count_agree {X} p q (x ∷ xs) same =
    let left : count_by p (x ∷ xs) ≡ cond (p x) 1 0 + count_by p xs = sum_by-cons (λ (y : X). cond (p y) 1 0) x xs in
    let right : count_by q (x ∷ xs) ≡ cond (q x) 1 0 + count_by q xs = sum_by-cons (λ (y : X). cond (q y) 1 0) x xs in
    let here : cond (p x) 1 0 ≡ cond (q x) 1 0 = ap one_if (same x) in
    omega (arith, count_agree p q xs same, left, right, here)

all_front : {X : Type 0} (p : X → Bool) (xs : List X) (m : ℕ) → m ≤ length xs → ((i : ℕ) (d : X) → i < m → p (get_or xs i d) ≡ true) → All (λ x. p x ≡ true) (take m xs)
all_front p xs m fits pass k d h =
    let long = length-take-le m xs fits in
    let below : k < m = omega (arith, h, long) in
    ap p (get_or-take m xs k d below) ∙ pass k d below

none_behind : {X : Type 0} (p : X → Bool) (xs : List X) (m : ℕ) → ((i : ℕ) (d : X) → m ≤ i → i < length xs → p (get_or xs i d) ≡ false) → All (λ x. p x ≡ false) (drop m xs)
none_behind p xs m fail k d h =
    let long = length-drop m xs in
    ap p (get_or-drop m xs k d) ∙ fail (m + k) d (omega arith) (omega (arith, h, long))

-- the first m pass, and none of the others
pub count_front : {X : Type 0} (p : X → Bool) (xs : List X) (m : ℕ) → m ≤ length xs
    → ((i : ℕ) (d : X) → i < m → p (get_or xs i d) ≡ true) → ((i : ℕ) (d : X) → m ≤ i → i < length xs → p (get_or xs i d) ≡ false) → count_by p xs ≡ m
count_front {X} p xs m fits pass fail =
    let front = count_all p (take m xs) (all_front p xs m fits pass) in
    let behind = count_none p (drop m xs) (none_behind p xs m fail) in
    let both : count_by p (take m xs) + count_by p (drop m xs) ≡ count_by p xs = sum_by-take-drop (λ (x : X). cond (p x) 1 0) xs m in
    omega (arith, front, behind, both, length-take-le m xs fits)

-- a sorted list, and an element beside the last of its first m
module _ {X : Type 0} (lt : X → X → Bool) (o : IsStrictWeakOrder lt) (xs : List X) (up : IsSortedBy lt xs) (m : ℕ) (last y : X) where
  all_below : m ≤ length xs → ((d : X) → last ≡ get_or xs (m - 1) d) → lt last y ≡ true → (i : ℕ) (d : X) → i < m → lt (get_or xs i d) y ≡ true
  all_below fits at above i d h =
      let upto : lt last (get_or xs i d) ≡ false = subst (λ (x : X). lt x (get_or xs i d) ≡ false) (sym (at d)) (sorted_far lt o xs up i (m - 1) d (omega (arith, h)) (omega (arith, h, fits))) in
      elim (cases_Bool (lt (get_or xs i d) y)) [
        | inl less ↦ less
        | inr other ↦ let off = o.chain last (get_or xs i d) y upto other in absurd (cc (above, off))
      ]

  none_below : ((d : X) → last ≡ get_or xs (m - 1) d) → lt last y ≡ false → (i : ℕ) (d : X) → m - 1 ≤ i → i < length xs → lt (get_or xs i d) y ≡ false
  none_below at upto i d le h =
      let from : lt (get_or xs i d) last ≡ false = subst (λ (x : X). lt (get_or xs i d) x ≡ false) (sym (at d)) (sorted_far lt o xs up (m - 1) i d le h) in
      o.chain (get_or xs i d) last y from upto

  -- just what isn't above the last of the first m has fewer than m elements below it
  pub rank_tells : 0 < m → m ≤ length xs → ((d : X) → last ≡ get_or xs (m - 1) d) → not (lt last y) ≡ nat_lt (count_by (λ x. lt x y) xs) m
  rank_tells some fits at =
      let below : X → Bool = λ x. lt x y in
      let both : count_by below (take m xs) + count_by below (drop m xs) ≡ count_by below xs = sum_by-take-drop (λ (x : X). cond (below x) 1 0) xs m in
      let short : count_by below (take (m - 1) xs) + count_by below (drop (m - 1) xs) ≡ count_by below xs = sum_by-take-drop (λ (x : X). cond (below x) 1 0) xs (m - 1) in
      elim (cases_Bool (lt last y)) [
        | inl above ↦
            let front = count_all below (take m xs) (all_front below xs m fits (λ i d h. all_below fits at above i d h)) in
            let many : m ≤ count_by below xs = omega (arith, front, both, length-take-le m xs fits) in
            ap not above ∙ sym (le-ltb (count_by below xs) m many)
        | inr upto ↦
            let behind = count_none below (drop (m - 1) xs) (none_behind below xs (m - 1) (λ i d le h. none_below at upto i d le h)) in
            let most = count_by-le-length below (take (m - 1) xs) in
            let long = length-take-le (m - 1) xs (omega (arith, fits)) in
            let few : count_by below xs < m = omega (arith, behind, short, most, long, some) in
            ap not upto ∙ sym (lt-ltb (count_by below xs) m few)
      ]
