-- The three fields of a day line.
use Rattle.std.specs.Prelude.{ℕ, List, [], ◌∷◌, Option, Some, None, Err, ◌≡◌}
use Rattle.cu_day.specs.declared.lines.DayRefusal.TheVariants.{Line}
use Rattle.cu_day.specs.declared.lines.Fields.{Fields}
use Rattle.cu_day.specs.DayLines.{day_of_fields}

-- these three fields, or none where a line of so many fields asks no day
abbrev pub HasThree : List (List ℕ) → Option Fields → Type 0
HasThree fields None = (nodes : ℕ) → day_of_fields nodes fields ≡ Err Line
HasThree fields (Some three) = fields ≡ three.word.now ∷ three.from.now ∷ three.to.now ∷ []
