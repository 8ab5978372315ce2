-- The four fields of a line.
use Rattle.std.specs.Prelude.{ℕ, List, [], ◌∷◌, Option, Some, None, Err, ◌≡◌}
use Rattle.cu_model.specs.declared.queries.QueryRefusal.TheVariants.{Line}
use Rattle.cu_drive.specs.declared.lines.Fields.{Fields}
use Rattle.cu_drive.specs.DriveLines.{drive_of_fields}

-- these four fields, or none where a line of so many fields asks for no drive
abbrev pub HasFour : List (List ℕ) → Option Fields → Type 0
HasFour fields None = (nodes : ℕ) → drive_of_fields nodes fields ≡ Err Line
HasFour fields (Some four) = fields ≡ four.word.now ∷ four.from.now ∷ four.to.now ∷ four.second.now ∷ []
