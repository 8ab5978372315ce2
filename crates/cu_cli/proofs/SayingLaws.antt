-- Numbers behind a word, one after another.
use Rattle.std.proofs.Common.{◌≡◌, ◌<◌, ◌+◌, ◌∙◌, ◌∷◌, ◌++◌, [], ℕ, List, zero, suc, length, take, get_or, sym, arith, append_assoc, decimal}
use Rattle.std.proofs.lemmas.List.{append-nil}
use Rattle.std.specs.Prelude.{codes}
use Rattle.cu_cli.specs.Stops.{numbers_text}

-- one more number
pub numbers_more : (word xs : List ℕ) (i d : ℕ) → i < length xs → numbers_text word (take (i + 1) xs) ≡ numbers_text word (take i xs) ++ (codes " " ++ decimal (get_or xs i d))
numbers_more word [] i d h = absurd (omega (arith, h))
numbers_more word (x ∷ xs) zero d h = append_assoc word (codes " ") (decimal x)
numbers_more word (x ∷ xs) (suc i) d h =
    let same : suc i + 1 ≡ suc (i + 1) = omega arith in
    rw same (numbers_more (word ++ codes " " ++ decimal x) xs i d (omega (arith, h)))

-- the word stands in front
numbers_front : (word xs : List ℕ) → (rest : List ℕ) × (numbers_text word xs ≡ word ++ rest)
numbers_front word [] = ([], sym (append-nil word))
numbers_front word (x ∷ xs) =
    let (rest, is) = numbers_front (word ++ codes " " ++ decimal x) xs in
    (codes " " ++ decimal x ++ rest, is ∙ simp append_assoc)

-- and so do the first numbers
pub numbers_first : (word xs : List ℕ) (i : ℕ) → (rest : List ℕ) × (numbers_text word xs ≡ numbers_text word (take i xs) ++ rest)
numbers_first word [] zero = ([], sym (append-nil word))
numbers_first word [] (suc i) = ([], sym (append-nil word))
numbers_first word (x ∷ xs) zero = numbers_front word (x ∷ xs)
numbers_first word (x ∷ xs) (suc i) = numbers_first (word ++ codes " " ++ decimal x) xs i
