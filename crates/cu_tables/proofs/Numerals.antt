-- Number words, as they are read digit by digit, and as they are written.
use Rattle.std.proofs.Common.{◌≡◌, ◌∙◌, ◌≤◌, ◌<◌, ◌+◌, ◌*◌, ◌-◌, ◌^◌, ℕ, List, true, false, length, get_or, take, refl, ap, arith}
use Rattle.std.specs.Prelude.{decimal, min, ◌==◌}
use Rattle.std.specs.Char.{is_ascii_digit}
use Rattle.std.specs.List.{list_all}
use Rattle.std.proofs.lemmas.Bool.{ne_eqb}
use Rattle.std.proofs.lemmas.Fmt.{decimal_is_IsNumeral, digits_decimal}
use Rattle.std.proofs.lemmas.Int.Digits.{digits_value_more}
use Rattle.std.proofs.lemmas.List.Folds.{list_all_more}
use Rattle.std.proofs.lemmas.Str.{digit_value_digit}
use Rattle.std.specs.Char.{digit_value}
use Rattle.cu_model.specs.Numbers.{is_number_word, number_value}
use Rattle.cu_model.proofs.NumberWords.{own}
use Rattle.cu_tables.specs.declared.fields.TheConstants.{WIDEST}
use Rattle.cu_tables.specs.Tables.{kept_number}

word_of_digits : (word : List ℕ) → 0 < length word → list_all is_ascii_digit word ≡ true → is_number_word word ≡ true
word_of_digits word some digits =
    let more : (length word == 0) ≡ false = ne_eqb (length word) 0 (λ e. absurd (omega (arith, some, e))) in
    rw (more, digits) refl

pub decimal_word : (n : ℕ) → n < 2 ^ 64 → is_number_word (decimal n) ≡ true
decimal_word n h = word_of_digits (decimal n) (decimal_is_IsNumeral n h).0.0 (digits_decimal own n h)

pub decimal_value : (n : ℕ) → n < 2 ^ 64 → number_value (decimal n) ≡ n
decimal_value n h = (decimal_is_IsNumeral n h).1

-- a number that stops at the widest, and one more digit
widest : (v x : ℕ) → min (min v WIDEST * 10 + x) WIDEST ≡ min (v * 10 + x) WIDEST
widest v x = omega arith

-- one more digit of a number
pub kept_more : (word : List ℕ) (i value digit : ℕ) → i < length word → digit ≡ get_or word i 0 → 48 ≤ digit → digit ≤ 57 → value ≡ kept_number (take i word)
    → min (value * 10 + (digit - 48)) WIDEST ≡ kept_number (take (i + 1) word)
kept_more word i value digit h e low high k =
    let d : digit_value digit + 48 ≡ digit = digit_value_digit digit (low, high) in
    let same : digit - 48 ≡ digit_value (get_or word i 0) = omega (arith, d) ∙ ap digit_value e in
    rw (same, k, digits_value_more 10 word i h) (widest (number_value (take i word)) (digit_value (get_or word i 0)))

-- one more byte that is a digit
pub digits_more : (word : List ℕ) (i digit : ℕ) → i < length word → digit ≡ get_or word i 0 → is_ascii_digit digit ≡ true → list_all is_ascii_digit (take i word) ≡ true
    → list_all is_ascii_digit (take (i + 1) word) ≡ true
digits_more word i digit h e k all = rw (list_all_more is_ascii_digit word i 0 h, all, ← e, k) refl
