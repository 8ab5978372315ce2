-- A line of more than four fields asks for no drive.
use Rattle.std.proofs.Common.{◌≡◌, ◌+◌, ◌==◌, ℕ, List, [], ◌∷◌, length, refl, arith}
use Rattle.std.specs.Prelude.{Err}
use Rattle.std.proofs.lemmas.List.Splits.{length-slice_split}
use Rattle.cu_model.specs.declared.queries.QueryRefusal.TheVariants.{Line}
use Rattle.cu_model.specs.Queries.{fields_of_line}
use Rattle.cu_drive.specs.DriveLines.{drive_of_fields}

-- a line has a field
some_field : (parts : List (List ℕ)) (count : ℕ) → length parts ≡ count + 1 → (part : List ℕ) × (more : List (List ℕ)) × (parts ≡ part ∷ more)
some_field [] count e = absurd (omega (arith, e))
some_field (part ∷ parts) count e = (part, parts, refl)

pub five_or_more : (fields : List (List ℕ)) (a b c d rest : List ℕ) (nodes : ℕ) → fields ≡ a ∷ b ∷ c ∷ d ∷ fields_of_line rest
    → drive_of_fields nodes fields ≡ Err Line
five_or_more fields a b c d rest nodes e =
    let (part, more, some) = some_field (fields_of_line rest) _ (length-slice_split (λ (x : ℕ). x == 44) rest) in
    rw (e, some) refl
