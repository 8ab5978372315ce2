-- How a day is written.
use Rattle.std.specs.Prelude.{ℕ, List, ◌++◌, codes, decimal}
use Rattle.std.specs.List.{flat_map}
use Rattle.cu_model.specs.declared.profiles.Piece.{Piece}
use Rattle.cu_model.specs.declared.profiles.Rule.{Rule}
use Rattle.cu_model.specs.declared.profiles.Rule.TheVariants.{Travel, Until, Closed}

-- a rule as in a table of profiles: its kind and its number
abbrev pub rule_text : Rule → List ℕ
rule_text (Travel seconds) = codes ",travel," ++ decimal seconds
rule_text (Until arrival) = codes ",until," ++ decimal arrival
rule_text (Closed value) = codes ",closed," ++ decimal value

abbrev pub piece_text : Piece → List ℕ
piece_text piece = codes " " ++ decimal piece.from ++ rule_text piece.rule

-- `day`, and each piece behind a blank
abbrev pub day_text : List Piece → List ℕ
day_text pieces = codes "day" ++ flat_map piece_text pieces
