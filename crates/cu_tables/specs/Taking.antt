-- What goes through the rows of a table in turn, until one is refused.
use Rattle.std.specs.Prelude.{ℕ, List, [], ◌∷◌, ◌++◌, Option, Some, None, Result, Ok, Err, ◌≡◌}

-- each of these rows is taken in turn
abbrev pub TakesAll : {T : Type 0} → (T → List (List ℕ) → T → Type 0) → T → List (List (List ℕ)) → T → Type 0
TakesAll takes s [] t = t ≡ s
TakesAll {T} takes s (r ∷ rs) t = (m : T) × takes s r m × TakesAll takes m rs t

-- the rows before one are taken in turn, and that one is refused; what is left is what the refusal leaves
abbrev pub RefusesIn : {T R : Type 0} → (T → List (List ℕ) → T → Type 0) → (T → List (List ℕ) → R → T → Type 0) → T → List (List (List ℕ))
    → T → R → Type 0
RefusesIn {T} takes refuses s rows t why = (front : List (List (List ℕ))) × (row : List (List ℕ)) × (rest : List (List (List ℕ))) × (m : T)
    × (rows ≡ front ++ (row ∷ rest)) × TakesAll takes s front m × refuses m row why t

-- how a walk through these rows ends, and what is left then: all are taken, or one is refused
abbrev pub Ends : {T R U : Type 0} → (T → List (List ℕ) → T → Type 0) → (T → List (List ℕ) → R → T → Type 0) → T → List (List (List ℕ))
    → T → Result U R → Type 0
Ends takes refuses s rows t (Ok done) = TakesAll takes s rows t
Ends takes refuses s rows t (Err why) = RefusesIn takes refuses s rows t why

-- the same of the rows below a header; a table without it is refused for that, and nothing is taken
abbrev pub EndsBelow : {T R U : Type 0} → (T → List (List ℕ) → T → Type 0) → (T → List (List ℕ) → R → T → Type 0) → R → T
    → Option (List (List (List ℕ))) → T → Result U R → Type 0
EndsBelow takes refuses no_header s None t answer = (answer ≡ Err no_header) × (t ≡ s)
EndsBelow takes refuses no_header s (Some rows) t answer = Ends takes refuses s rows t answer
