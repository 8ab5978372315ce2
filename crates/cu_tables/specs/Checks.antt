-- Checks of rows, and what a reader of a table answers of them, whatever its refusals are.
use Rattle.std.specs.Prelude.{ℕ, List, [], ◌∷◌, ◌++◌, Option, Some, None, Result, Ok, Err, ◌≡◌, ◌≢◌}

-- what is given, unless there is a refusal
abbrev pub unless : {T R : Type 0} → Option R → Result T R → Result T R
unless None given = given
unless (Some why) given = Err why

-- what the rows below a header give; a table without it is refused for that
abbrev pub below : {T R : Type 0} → R → (List (List (List ℕ)) → Result T R) → Option (List (List (List ℕ))) → Result T R
below no_header given None = Err no_header
below no_header given (Some rows) = given rows

-- what is refused is refused for exactly this, unless memory ran out
abbrev pub IsRefused : {T R : Type 0} → R → Result T R → R → Type 0
IsRefused no_memory given why = why ≢ no_memory → given ≡ Err why

-- what was answered, seen as a value of the text, is exactly what is given, unless memory ran out
abbrev pub Gives : {S T R : Type 0} → R → (S → T) → Result T R → Result S R → Type 0
Gives no_memory seen given (Ok value) = given ≡ Ok (seen value)
Gives no_memory seen given (Err why) = IsRefused no_memory given why

-- a row that passes its checks has this value, and one that fails has the refusal of the first check that it fails
abbrev pub Checked : {T R : Type 0} → Option R → T → Result T R → Type 0
Checked fault value (Ok passed) = (fault ≡ None) × (passed ≡ value)
Checked fault value (Err why) = fault ≡ Some why

-- a row that passes adds its value to those of the rows before it
abbrev pub Adds : {T R : Type 0} → Option R → T → List T → List T → Type 0
Adds fault value old new = (fault ≡ None) × (new ≡ old ++ (value ∷ []))
