-- What a table text is: the records that the default reader of csv finds behind a byte-order mark.
use Rattle.std.specs.Prelude.{ℕ, List, [], ◌∷◌, Option, Some, None, bytes_eq, min, slice_index_or, if◌then◌else◌}
use Rattle.std.specs.Cmp.Lexicographic.{pointwise}
use Rattle.csv.specs.Reading.{default_config, records, strip_bom}
use Rattle.cu_model.specs.Numbers.{is_number_word, number_value}
use Rattle.cu_tables.specs.declared.fields.TheConstants.{WIDEST}

-- the rows of a table text, each the bytes of its fields
abbrev pub table : List ℕ → List (List (List ℕ))
table bytes = records default_config (strip_bom bytes)

-- a field of a row, counted from 0; past the last one nothing
abbrev pub field_of : List (List ℕ) → ℕ → List ℕ
field_of row index = slice_index_or row index []

-- the rows below a header of these names, where the first row is that header
abbrev pub rows_below : List (List ℕ) → List (List (List ℕ)) → Option (List (List (List ℕ)))
rows_below names [] = None
rows_below names (row ∷ rows) = if pointwise bytes_eq row names then Some rows else None

-- a number as a row keeps it: one too wide for 32 bits is the widest, which is past each limit
abbrev pub kept_number : List ℕ → ℕ
kept_number word = min (number_value word) WIDEST

-- the number that a field of a row names, where it is a number word
abbrev pub number_in : List (List ℕ) → ℕ → Option ℕ
number_in row index = if is_number_word (field_of row index) then Some (kept_number (field_of row index)) else None
