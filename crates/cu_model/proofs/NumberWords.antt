-- Number words against what std reads and writes.
use Rattle.std.proofs.Common.{◌≡◌, ◌<◌, ◌^◌, ℕ, List, true, rules, refl, inl, inr}
use Rattle.std.specs.List.{list_all}
use Rattle.std.specs.Char.{is_ascii_digit}
use Rattle.std.specs.Str.{IsUtf8}
use Rattle.std.specs.Str.Parse.{digits_value}
use Rattle.std.proofs.lemmas.Bool.{cases_lt, lt-ltb, le-ltb}
use Rattle.std.proofs.lemmas.Str.{IsUtf8-from_ascii}
use Rattle.std.proofs.lemmas.Fmt.{IsAscii-from_digits}
use Rattle.std.proofs.lemmas.Str.Parse.{IsNumeralModel, numerals_by_value}
use Rattle.cu_model.specs.Numbers.{as_number}
use Rattle.cu_model.specs.declared.numbers.Number.TheVariants.{Value, Huge}

-- number words are std's decimal digits, and have their value
pub own : IsNumeralModel (λ ds. list_all is_ascii_digit ds ≡ true) (digits_value 10)
own = numerals_by_value (λ ds. list_all is_ascii_digit ds ≡ true) (search rules)

pub digits_utf8 : (word : List ℕ) → list_all is_ascii_digit word ≡ true → IsUtf8 word
digits_utf8 word h = IsUtf8-from_ascii word (IsAscii-from_digits word (own.to word h))

pub as_number-huge : (v : ℕ) → (v < 2 ^ 64 → ⊥) → as_number v ≡ Huge
as_number-huge v h = elim (cases_lt v (2 ^ 64)) [ inl lt ↦ absurd (h lt) | inr le ↦ rw (le-ltb v (2 ^ 64) le) refl ]

pub as_number-value : (v : ℕ) → v < 2 ^ 64 → as_number v ≡ Value v
as_number-value v h = rw (lt-ltb v (2 ^ 64) h) refl
