-- The fields of a row by their places.
use Rattle.std.proofs.Common.{Bor, ◌≡◌, ◌≢◌, ◌∙◌, ◌<◌, ◌+◌, ℕ, zero, suc, List, [], ◌∷◌, length, drop, get_or, map, Bool, true, false, Option, Some, None, refl, ap, arith, rules}
use Rattle.std.specs.Prelude.{◌&&◌, bytes_eq, option_map, IsSome}
use Rattle.std.specs.Cmp.Lexicographic.{pointwise}
use Rattle.std.proofs.Math.Bool.{and-false}
use Rattle.csv.specs.Records.{field_at}

-- a place within the row has its field
pub field_found : (row : List (List ℕ)) (index : ℕ) → index < length row → field_at row index ≡ Some (get_or row index [])
unfolding field_at
field_found [] index h = absurd (omega (arith, h))
field_found (f ∷ fs) zero h = refl
field_found (f ∷ fs) (suc index) h = field_found fs index (omega (arith, h))

-- rows of other lengths aren't the same
pub unequal_lengths : (xs ys : List (List ℕ)) → length xs ≢ length ys → pointwise bytes_eq xs ys ≡ false
unequal_lengths [] [] h = absurd (h refl)
unequal_lengths [] (y ∷ ys) h = refl
unequal_lengths (x ∷ xs) [] h = refl
unequal_lengths (x ∷ xs) (y ∷ ys) h =
    let k = unequal_lengths xs ys (λ e. h (ap suc e)) in
    ap (λ (b : Bool). bytes_eq x y && b) k ∙ and-false (bytes_eq x y)

-- what is left to compare is the fields at a place, and then those behind them
pub compare_next : (row : List (List ℕ)) (fields : List (Bor (List ℕ))) (d : Bor (List ℕ)) (i : ℕ) → i < length row → i < length fields
    → pointwise bytes_eq (drop i row) (drop i (map (λ f. f.now) fields))
    ≡ (bytes_eq (get_or row i []) (get_or fields i d).now && pointwise bytes_eq (drop (i + 1) row) (drop (i + 1) (map (λ f. f.now) fields)))
compare_next [] fields d i h k = absurd (omega (arith, h))
compare_next (x ∷ row) [] d i h k = absurd (omega (arith, k))
compare_next (x ∷ row) (f ∷ fields) d zero h k = refl
compare_next (x ∷ row) (f ∷ fields) d (suc i) h k =
    let same : suc i + 1 ≡ suc (i + 1) = omega arith in
    rw same (compare_next row fields d i (omega (arith, h)) (omega (arith, k)))

-- an option of which some image is there is there
pub some_image : {A B : Type 0} (f : A → B) (o : Option A) (y : B) → option_map f o ≡ Some y → IsSome o
some_image f None y e = cc e
some_image f (Some x) y e = search rules

pub some_is : {A B : Type 0} (f : A → B) (o : Option A) (x : A) (y : B) → option_map f o ≡ Some y → o ≡ Some x → f x ≡ y
some_is f o x y e h = let k = rw h at e in cc k

-- the tests of three fields pass, and those of four

pub and_three : (a b c : Bool) → a ≡ true → b ≡ true → c ≡ true → (a && b && c) ≡ true
and_three a b c ea eb ec = rw (ea, eb, ec) refl

pub and_four : (a b c d : Bool) → a ≡ true → b ≡ true → c ≡ true → d ≡ true → (a && b && c && d) ≡ true
and_four a b c d ea eb ec ed = rw (ea, eb, ec, ed) refl
