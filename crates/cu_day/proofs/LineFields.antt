-- A line of more than three fields asks no day.
use Rattle.std.proofs.Common.{◌≡◌, ◌<◌, ◌==◌, ◌∙◌, ℕ, List, [], ◌∷◌, length, refl, ap, arith}
use Rattle.std.specs.Prelude.{Err}
use Rattle.std.proofs.lemmas.List.Splits.{length-slice_split}
use Rattle.cu_model.specs.Queries.{fields_of_line}
use Rattle.cu_day.specs.declared.lines.DayRefusal.TheVariants.{Line}
use Rattle.cu_day.specs.DayLines.{day_of_fields}

with_more : (a b c : List ℕ) (parts : List (List ℕ)) (nodes : ℕ) → 0 < length parts → day_of_fields nodes (a ∷ b ∷ c ∷ parts) ≡ Err Line
with_more a b c [] nodes some = absurd (omega (arith, some))
with_more a b c (part ∷ parts) nodes some = refl

pub four_or_more : (fields : List (List ℕ)) (a b c rest : List ℕ) (nodes : ℕ) → fields ≡ a ∷ b ∷ c ∷ fields_of_line rest
    → day_of_fields nodes fields ≡ Err Line
four_or_more fields a b c rest nodes e =
    let count = length-slice_split (λ (x : ℕ). x == 44) rest in
    ap (day_of_fields nodes) e ∙ with_more a b c (fields_of_line rest) nodes (omega (arith, count))
