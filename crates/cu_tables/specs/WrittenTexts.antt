-- A text of rows, each of as many fields as the first.
use Rattle.std.specs.Prelude.{ℕ, List, [], ◌∷◌, ◌++◌, Option, Some, None, IfSome, ◌≡◌, length}
use Rattle.csv.proofs.RoundTrip.{rows_text}

-- a text, and how many fields its first row has, none before that row
pub record WrittenText : Type 0 where
  pub text : List ℕ
  pub width : Option ℕ

-- a row of so many fields may be the next one
abbrev pub MayFollow : Option WrittenText → ℕ → Type 0
MayFollow None width = Unit {0}
MayFollow (Some before) width = IfSome before.width (λ first. width ≡ first)

-- one more row at the end of the text
abbrev pub AddsRow : Option WrittenText → Option WrittenText → List (List ℕ) → Type 0
AddsRow old new row = (before : WrittenText) × (old ≡ Some before)
    × (new ≡ Some (record { text = before.text ++ rows_text (row ∷ []); width = Some (length row) }))

-- the text is that of these rows, and a row of so many fields may be the next one
abbrev pub HasRows : Option WrittenText → ℕ → List (List (List ℕ)) → Type 0
HasRows value width rows = (before : WrittenText) × (value ≡ Some before) × (before.text ≡ rows_text rows) × IfSome before.width (λ first. width ≡ first)
