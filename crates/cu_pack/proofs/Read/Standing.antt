-- Parts of what stands at a place, and the numbers that are read there.
use Rattle.std.proofs.Common.{◌≡◌, ◌≤◌, ◌<◌, ◌+◌, ◌-◌, ◌*◌, ◌^◌, ◌∙◌, ℕ, zero, suc, List, [], ◌∷◌, ◌++◌, Some, length, take, drop, flat_map, refl, ap, sym, subst, arith}
use Rattle.std.proofs.Common.{length-append, mul-add, mul-suc}
use Rattle.std.specs.Prelude.{slice_get}
use Rattle.std.specs.Int.{w32, w64, from_le_bytes}
use Rattle.std.proofs.lemmas.List.{append_assoc, drop-drop, drop-take, drop_at, length-take-le, take-take, take_all, take_at}
use Rattle.std.proofs.lemmas.List.Sums.{sum_by-cons}
use Rattle.std.proofs.lemmas.Option.{slice_get_within}
use Rattle.std.proofs.lemmas.Nat.{from_le_bytes-to_le_bytes_4, from_le_bytes-to_le_bytes_8}
use Rattle.cu_pack.specs.Places.{ReadsRow, StandsAt, long_at, short_at}
use Rattle.cu_pack.specs.Spelling.{long, total, triple, short}

pub stands_whole : (bytes : List ℕ) → StandsAt bytes 0 bytes
stands_whole bytes = take_all (length bytes) bytes (omega arith)

module _ (bytes : List ℕ) (at : ℕ) (first second : List ℕ) (both : StandsAt bytes at (first ++ second)) where
  pub stands_first : StandsAt bytes at first
  stands_first =
      let long = length-append first second in
      sym (take-take (length first) (length (first ++ second)) (drop at bytes) (omega (arith, long))) ∙ ap (take (length first)) both ∙ take_at first second (length first) refl

  pub stands_second : (next : ℕ) → next ≡ at + length first → StandsAt bytes next second
  stands_second next place =
      ap (λ (n : ℕ). take (length second) (drop n bytes)) place
      ∙ ap (take (length second)) (sym (drop-drop (length first) at bytes))
      ∙ sym (drop-take (length first) (length second) (drop at bytes))
      ∙ ap (λ (n : ℕ). drop (length first) (take n (drop at bytes))) (sym (length-append first second)) ∙ ap (drop (length first)) both ∙ drop_at first second (length first) refl

-- a part inside
pub stands_inside : (bytes : List ℕ) (at k next : ℕ) (part inner : List ℕ) → StandsAt bytes at part → k + length inner ≤ length part
    → take (length inner) (drop k part) ≡ inner → next ≡ at + k → StandsAt bytes next inner
stands_inside bytes at k next part inner all inside there place =
    let long = length part - k in
    let whole : k + long ≡ length part = omega (arith, inside) in
    let cut : drop k part ≡ take long (drop k (drop at bytes)) =
    ap (drop k) (sym all) ∙ ap (λ (n : ℕ). drop k (take n (drop at bytes))) (sym whole) ∙ drop-take k long (drop at bytes) in
    ap (λ (n : ℕ). take (length inner) (drop n bytes)) place
    ∙ ap (take (length inner)) (sym (drop-drop k at bytes)) ∙ sym (take-take (length inner) long (drop k (drop at bytes)) (omega (arith, inside))) ∙ ap (take (length inner)) (sym cut) ∙ there

-- two parts that belong together, and what is behind both
pub stands_pair : (bytes : List ℕ) (at next after : ℕ) (first second rest : List ℕ) → StandsAt bytes at ((first ++ second) ++ rest) → next ≡ at + length first → after ≡ next + length second
    → StandsAt bytes at first × StandsAt bytes next second × StandsAt bytes after rest
stands_pair bytes at next after first second rest all one two =
    let both = stands_first bytes at (first ++ second) rest all in
    let long = length-append first second in
    (stands_first bytes at first second both, stands_second bytes at first second both next one, stands_second bytes at (first ++ second) rest all after (omega (arith, long, one, two)))

-- what is spelled in equal lengths
pub flat_length : {X : Type 0} (f : X → List ℕ) (k : ℕ) → ((x : X) → length (f x) ≡ k) → (xs : List X) → length (flat_map f xs) ≡ k * length xs
flat_length f k each [] = omega arith
flat_length f k each (x ∷ xs) =
    let both = length-append (f x) (flat_map f xs) in
    let one = each x in
    let rest = flat_length f k each xs in
    let product = mul-suc k (length xs) in
    omega (arith, both, one, rest, product)

pub flat_flat_length : {X : Type 0} (f : X → List ℕ) (k : ℕ) → ((x : X) → length (f x) ≡ k) → (xss : List (List X)) → length (flat_map (flat_map f) xss) ≡ k * total xss
flat_flat_length f k each [] = omega arith
flat_flat_length f k each (xs ∷ xss) =
    let both = length-append (flat_map f xs) (flat_map (flat_map f) xss) in
    let one = flat_length f k each xs in
    let rest = flat_flat_length f k each xss in
    both ∙ ap (λ (n : ℕ). n + length (flat_map (flat_map f) xss)) one ∙ ap (λ (n : ℕ). k * length xs + n) rest ∙ sym (mul-add k (length xs) (total xss))
    ∙ ap (λ (n : ℕ). k * n) (sym (sum_by-cons length xs xss))

cut : {X : Type 0} (f : X → List ℕ) (xs : List X) (i : ℕ) (x : X) → slice_get xs i ≡ Some x → (rest : List ℕ) × (flat_map f xs ≡ flat_map f (take i xs) ++ (f x ++ rest))
cut f [] i x there = absurd (cc there)
cut f (y ∷ ys) zero x there = (flat_map f ys, ap (λ (z : _). f z ++ flat_map f ys) (cc there))
cut f (y ∷ ys) (suc i) x there =
    let rest = cut f ys i x there in
    (rest.0, ap (λ (bs : List ℕ). f y ++ bs) rest.1 ∙ sym (append_assoc (f y) (flat_map f (take i ys)) (f x ++ rest.0)))

-- the i-th of several pieces stands behind those before it
pub stands_within : {X : Type 0} (f : X → List ℕ) (bytes : List ℕ) (at : ℕ) (xs : List X) (i : ℕ) (x : X) (next : ℕ) → StandsAt bytes at (flat_map f xs) → slice_get xs i ≡ Some x
    → next ≡ at + length (flat_map f (take i xs)) → StandsAt bytes next (f x)
stands_within f bytes at xs i x next all there place =
    let parts = cut f xs i x there in
    let front = flat_map f (take i xs) in
    let split = subst (StandsAt bytes at) parts.1 all in
    stands_first bytes next (f x) parts.0 (stands_second bytes at front (f x ++ parts.0) split next place)

-- where all pieces have one length
pub stands_ith : {X : Type 0} (f : X → List ℕ) (k : ℕ) → ((x : X) → length (f x) ≡ k) → (bytes : List ℕ) (at : ℕ) (xs : List X) (i : ℕ) (x : X)
    → StandsAt bytes at (flat_map f xs) → slice_get xs i ≡ Some x
    → StandsAt bytes (at + k * i) (f x)
stands_ith f k each bytes at xs i x all there =
    let inside = slice_get_within xs i x there in
    let before : length (flat_map f (take i xs)) ≡ k * i = flat_length f k each (take i xs) ∙ ap (λ (n : ℕ). k * n) (length-take-le i xs (omega (arith, inside))) in
    stands_within f bytes at xs i x (at + k * i) all there (ap (λ (n : ℕ). at + n) (sym before))

-- where they are those of several lists, one behind the other
pub stands_jth : {X : Type 0} (f : X → List ℕ) (k : ℕ) → ((x : X) → length (f x) ≡ k)
    → (bytes : List ℕ) (at : ℕ) (xss : List (List X)) (i j : ℕ) (xs : List X) (x : X) → StandsAt bytes at (flat_map (flat_map f) xss)
    → slice_get xss i ≡ Some xs → slice_get xs j ≡ Some x → StandsAt bytes (at + k * (total (take i xss) + j)) (f x)
stands_jth f k each bytes at xss i j xs x all list there =
    let before = total (take i xss) in
    let start = at + k * before in
    let part = stands_within (flat_map f) bytes at xss i xs start all list (ap (λ (n : ℕ). at + n) (sym (flat_flat_length f k each (take i xss)))) in
    let place : start + k * j ≡ at + k * (before + j) = omega (arith, mul-add k before j) in
    subst (λ (n : ℕ). StandsAt bytes n (f x)) place (stands_ith f k each bytes start xs j x part there)

-- a number, and three of them, read where they stand
pub short_read : (bytes : List ℕ) (at n : ℕ) → StandsAt bytes at (short n) → n < 2 ^ 32 → short_at bytes at ≡ n
unfolding short_at
short_read bytes at n there fits = ap (from_le_bytes w32) there ∙ from_le_bytes-to_le_bytes_4 n fits

pub long_read : (bytes : List ℕ) (at n : ℕ) → StandsAt bytes at (long n) → n < 2 ^ 64 → long_at bytes at ≡ n
unfolding long_at
long_read bytes at n there fits = ap (from_le_bytes w64) there ∙ from_le_bytes-to_le_bytes_8 n fits

pub row_read : (bytes : List ℕ) (at first second third : ℕ) → StandsAt bytes at (triple first second third) → first < 2 ^ 32 → second < 2 ^ 32 → third < 2 ^ 32 → ReadsRow bytes at first second third
row_read bytes at first second third row fits_first fits_second fits_third =
    let rest = stands_second bytes at (short first) (short second ++ short third) row (at + 4) refl in (
      short_read bytes at first (stands_first bytes at (short first) (short second ++ short third) row) fits_first,
      short_read bytes (at + 4) second (stands_first bytes (at + 4) (short second) (short third) rest) fits_second,
      short_read bytes (at + 8) third (stands_second bytes (at + 4) (short second) (short third) rest (at + 8) (omega arith)) fits_third,
    )
