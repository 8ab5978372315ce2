-- Number words: one or more ASCII digits, leading zeros allowed, of any length.
use Rattle.std.specs.Prelude.{ℕ, List, Bool, Option, Some, None, ◌^◌, ◌&&◌, ◌==◌, not, nat_lt, length, if◌then◌else◌}
use Rattle.std.specs.Char.{is_ascii_digit}
use Rattle.std.specs.List.{list_all}
use Rattle.std.specs.Str.Parse.{digits_value}
use Rattle.cu_model.specs.declared.numbers.Number.{Number}
use Rattle.cu_model.specs.declared.numbers.Number.TheVariants.{Value, Huge}

-- one or more ASCII digits and nothing else
abbrev pub is_number_word : List ℕ → Bool
is_number_word word = not (length word == 0) && list_all is_ascii_digit word

-- the decimal value of a number word, of any size
abbrev pub number_value : List ℕ → ℕ
number_value word = digits_value 10 word

-- a value as the program keeps it: itself below 2 ^ 64, and else only that it is huge
abbrev pub as_number : ℕ → Number
as_number value = if nat_lt value (2 ^ 64) then Value value else Huge

-- the number that a word names, where it is a number word
abbrev pub number_of : List ℕ → Option Number
number_of word = if is_number_word word then Some (as_number (number_value word)) else None

-- a value, where it is below a limit
abbrev pub value_below : ℕ → ℕ → Option ℕ
value_below value limit = if nat_lt value limit then Some value else None
