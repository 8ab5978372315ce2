-- A number behind a blank, in a text of blanks.
use Rattle.std.proofs.Common.{◌≡◌, ◌≤◌, ◌<◌, ◌+◌, ◌-◌, ◌^◌, ◌∙◌, ℕ, zero, suc, List, [], ◌∷◌, ◌++◌, ap, arith, refl, length, take, drop, replicate, decimal}
use Rattle.std.proofs.lemmas.List.{append-nil, take_all}
use Rattle.std.proofs.lemmas.Fmt.{length-decimal-le}

-- a number of 64 bits has at most twenty digits
pub long_digits : (number : ℕ) → number < 2 ^ 64 → length (decimal number) ≤ 20
long_digits number lt = length-decimal-le 20 number (omega arith) (omega (arith, lt)) lt

no_blanks : (many : ℕ) → drop {A = ℕ} many (replicate many 32) ≡ []
no_blanks zero = refl
no_blanks (suc many) = no_blanks many

-- where the first bytes are blanks, the last of them stands before what follows
blank_before : (i many : ℕ) (text : List ℕ) → take (suc i) text ≡ take (suc i) (replicate many 32) → i < many → drop i text ≡ 32 ∷ drop (suc i) text
blank_before i zero text same lt = absurd (omega (arith, lt))
blank_before zero (suc many) [] same lt = absurd (cc same)
blank_before zero (suc many) (x ∷ xs) same lt = cc same
blank_before (suc i) (suc many) [] same lt = absurd (cc same)
blank_before (suc i) (suc many) (x ∷ xs) same lt = blank_before i many xs (cc same) (omega (arith, lt))

-- a number that ends a text of so many bytes, behind a blank
blank_number : (many number start : ℕ) (text : List ℕ) → start + length (decimal number) ≡ many → 1 ≤ start → drop start text ≡ decimal number ++ drop many (replicate many 32)
    → take start text ≡ take start (replicate many 32) → drop (start - 1) text ≡ 32 ∷ decimal number
blank_number many number zero text ends some written before = absurd (omega (arith, some))
blank_number many number (suc i) text ends some written before =
    let one : suc i - 1 ≡ i = omega arith in
    ap (λ (n : ℕ). drop n text) one
    ∙ blank_before i many text before (omega (arith, ends))
    ∙ ap (λ (xs : List ℕ). 32 ∷ xs) (written ∙ ap (λ (xs : List ℕ). decimal number ++ xs) (no_blanks many) ∙ append-nil (decimal number))

-- is all that stands from the blank on
pub blank_piece : (many number start : ℕ) (text : List ℕ) → start + length (decimal number) ≡ many → 1 ≤ start → drop start text ≡ decimal number ++ drop many (replicate many 32)
    → take start text ≡ take start (replicate many 32) → take (many - (start - 1)) (drop (start - 1) text) ≡ 32 ∷ decimal number
blank_piece many number start text ends some written before =
    let rest = blank_number many number start text ends some written before in
    let long : length (drop (start - 1) text) ≡ length (decimal number) + 1 = ap length rest ∙ omega arith in
    take_all (many - (start - 1)) (drop (start - 1) text) (omega (arith, long, ends, some)) ∙ rest
