-- Lists by their items: the item at a place, what stands there after one is set, and lists with the same items.
use Rattle.std.proofs.Common.{◌≡◌, ◌≢◌, ◌<◌, ℕ, zero, suc, List, [], ◌∷◌, Some, refl, ap, arith, length}
use Rattle.std.specs.Prelude.{slice_get, slice_set}
use Rattle.std.proofs.lemmas.Option.{same_Some}

-- a place within a list has an item
pub item_there : {X : Type 0} (xs : List X) (i : ℕ) → i < length xs → (x : X) × (slice_get xs i ≡ Some x)
item_there [] i lt = absurd (omega (arith, lt))
item_there (x ∷ xs) zero lt = (x, refl)
item_there (x ∷ xs) (suc i) lt = item_there xs i (omega (arith, lt))

-- an item that is set is there, and the others are what they were
pub get_here : {X : Type 0} (xs : List X) (i : ℕ) (x : X) → i < length xs → slice_get (slice_set xs i x) i ≡ Some x
get_here [] i x lt = absurd (omega (arith, lt))
get_here (y ∷ ys) zero x lt = refl
get_here (y ∷ ys) (suc i) x lt = get_here ys i x (omega (arith, lt))

pub get_other : {X : Type 0} (xs : List X) (i j : ℕ) (x : X) → i ≢ j → slice_get (slice_set xs i x) j ≡ slice_get xs j
get_other [] i j x ne = refl
get_other (y ∷ ys) zero zero x ne = absurd (ne refl)
get_other (y ∷ ys) zero (suc j) x ne = refl
get_other (y ∷ ys) (suc i) zero x ne = refl
get_other (y ∷ ys) (suc i) (suc j) x ne = get_other ys i j x (λ same. ne (ap (λ (n : ℕ). suc n) same))

-- lists with the same item at each place are the same
pub same_items : {X : Type 0} (xs ys : List X) → ((i : ℕ) → slice_get xs i ≡ slice_get ys i) → xs ≡ ys
same_items [] [] same = refl
same_items [] (y ∷ ys) same = absurd (cc (same 0))
same_items (x ∷ xs) [] same = absurd (cc (same 0))
same_items (x ∷ xs) (y ∷ ys) same = cc (same_Some x y (same 0), same_items xs ys (λ i. same (suc i)))
