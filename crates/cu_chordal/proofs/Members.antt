-- Members of lists, one after another.
use Rattle.std.proofs.Common.{◌≡◌, ◌≢◌, ◌≤◌, ℕ, zero, suc, Bool, length, List, [], ◌∷◌, ◌++◌, Some, eqb, get_or, refl, ◌∙◌, ap, arith, inl, inr, ◌⊎◌}
use Rattle.std.specs.Prelude.{All, slice_get}
use Rattle.std.specs.List.{Contains, AllPairs}
use Rattle.std.specs.Bool.{Decides}
use Rattle.std.specs.Cmp.{IsEquivalence}
use Rattle.std.proofs.lemmas.Bool.Decides.{nat_tests}
use Rattle.std.proofs.lemmas.List.Elements.{All-append}
use Rattle.std.proofs.lemmas.List.Kept.{AllPairs-cons}
use Rattle.std.proofs.lemmas.List.{get_or_default}
use Rattle.std.proofs.lemmas.Map.Made.{IsDistinct-from_AllPairs, length-le_from_is_member}
use Rattle.std.proofs.lemmas.Map.Views.{Contains-from_any, list_any-from_Contains}
use Rattle.std.proofs.lemmas.Option.{slice_get-get_or, get_or_from_slice_get, slice_get_within}

-- two numbers are compared alike either way round
pub flips : (x y : ℕ) → eqb x y ≡ eqb y x
flips x y = grind (arith, nat_tests)

pub here : {X : Type 0} (x : X) (xs : List X) → Contains (x ∷ xs) x
here x xs = (0, omega arith, refl)

pub there : {X : Type 0} (x : X) (xs : List X) (y : X) → Contains xs y → Contains (x ∷ xs) y
there x xs y c = (suc c.0, omega (arith, c.1), c.2)

pub member_cases : {X : Type 0} (x : X) (xs : List X) (y : X) → Contains (x ∷ xs) y → (x ≡ y) ⊎ Contains xs y
member_cases x xs y (zero, h, e) = inl e
member_cases x xs y (suc k, h, e) = inr (k, omega (arith, h), e)

pub none_in_nil : {X : Type 0} (y : X) → Contains [] y → ⊥
none_in_nil y c = omega (arith, c.1)

pub member_at : {X : Type 0} (xs : List X) (y : X) (i : ℕ) → slice_get xs i ≡ Some y → Contains xs y
member_at xs y i e = (i, slice_get_within xs i y e, get_or_from_slice_get xs i y y e)

pub place_of : {X : Type 0} (xs : List X) (y : X) → Contains xs y → (i : ℕ) × (slice_get xs i ≡ Some y)
place_of xs y c = (c.0, slice_get-get_or xs c.0 y c.1 ∙ ap Some c.2)

-- what all members have holds at each index
pub all_from_members : {X : Type 0} (P : X → Type 0) (xs : List X) → ((y : X) → Contains xs y → P y) → All P xs
all_from_members P xs f k d h = f (get_or xs k d) (k, h, get_or_default xs k (get_or xs k d) d h)

pub pairs_tail : {X : Type 0} (R : X → X → Type 0) (x : X) (xs : List X) → AllPairs R (x ∷ xs) → AllPairs R xs
pairs_tail R x xs f i j d lt h = f (suc i) (suc j) d (omega (arith, lt)) (omega (arith, h))

pub pairs_head : {X : Type 0} (R : X → X → Type 0) (x : X) (xs : List X) → AllPairs R (x ∷ xs) → All (R x) xs
pairs_head R x xs f k d h = f zero (suc k) d (omega arith) (omega (arith, h))

pub pairs_append : {X : Type 0} (R : X → X → Type 0) (xs ys : List X) → AllPairs R xs → AllPairs R ys → ((x y : X) → Contains xs x → Contains ys y → R x y) → AllPairs R (xs ++ ys)
pairs_append R [] ys f g between = g
pairs_append R (x ∷ xs) ys f g between =
    AllPairs-cons R x (xs ++ ys)
    (All-append (R x) xs ys (pairs_head R x xs f) (all_from_members (R x) ys (λ y c. between x y (here x xs) c)))
    (pairs_append R xs ys (pairs_tail R x xs f) g (λ w y c e. between w y (there x xs w c) e))

-- different members that are all in another list are no more than it has
pub no_more : {X : Type 0} {same : X → X → Bool} → IsEquivalence same → ((a b : X) → Decides (same a b) (a ≡ b)) → (some all : List X)
    → AllPairs (λ (a b : X). a ≢ b) some → ((x : X) → Contains some x → Contains all x) → length some ≤ length all
no_more {X} {same} laws decides some all differ inside =
    length-le_from_is_member laws some all (IsDistinct-from_AllPairs decides some differ)
    (λ q h. list_any-from_Contains laws q all (inside q (Contains-from_any (λ x y. (decides x y).0) q some h)))
