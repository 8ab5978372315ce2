-- The rows that profiles are written as.
use Rattle.std.specs.Prelude.{ℕ, List, [], ◌∷◌, ◌++◌, ◌+◌, map, codes, decimal}
use Rattle.cu_model.specs.declared.profiles.Piece.{Piece}
use Rattle.cu_model.specs.declared.profiles.Rule.{Rule}
use Rattle.cu_model.specs.declared.profiles.Rule.TheVariants.{Travel, Until, Closed}
use Rattle.cu_profile.specs.ProfileTexts.{header}

abbrev pub kind_word : Rule → List ℕ
kind_word (Travel seconds) = codes "travel"
kind_word (Until arrival) = codes "until"
kind_word (Closed value) = codes "closed"

abbrev pub rule_number : Rule → ℕ
rule_number (Travel seconds) = seconds
rule_number (Until arrival) = arrival
rule_number (Closed value) = value

-- the row of a piece of the profile with this number
abbrev pub piece_row : ℕ → Piece → List (List ℕ)
piece_row profile piece = decimal profile ∷ decimal piece.from ∷ kind_word piece.rule ∷ decimal (rule_number piece.rule) ∷ []

-- the rows of profiles, the first with this number
abbrev pub rows_from : ℕ → List (List Piece) → List (List (List ℕ))
rows_from number [] = []
rows_from number (profile ∷ profiles) = map (piece_row number) profile ++ rows_from (number + 1) profiles

-- the header and the rows of these profiles
abbrev pub table_of : List (List Piece) → List (List (List ℕ))
table_of profiles = header ∷ rows_from 0 profiles
