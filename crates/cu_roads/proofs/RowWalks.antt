-- What one row does to what the rows give.
use Rattle.std.proofs.Common.{◌≡◌, ◌∙◌, ◌+◌, ℕ, List, [], ◌∷◌, ◌++◌, Option, Some, refl, ap, append_assoc, length-append, length, map}
use Rattle.std.specs.Prelude.{Result, Ok, Err}
use Rattle.cu_tables.specs.Checks.{Adds, unless}
use Rattle.cu_roads.specs.declared.refusals.RoadRefusal.{RoadRefusal}
use Rattle.cu_roads.specs.NetworkTexts.{first_fault}

-- what the rows behind those of these values give
abbrev pub rest_of : {T : Type 0} → (ℕ → List (List ℕ) → Option RoadRefusal) → (List (List ℕ) → T) → List T → List (List (List ℕ)) → Result (List T) RoadRefusal
rest_of fault value values rows = unless (first_fault fault (length values) rows) (Ok (values ++ map value rows))

-- a row that passes leaves it to the rows behind it
pub rest_passed : {T : Type 0} (fault : ℕ → List (List ℕ) → Option RoadRefusal) (value : List (List ℕ) → T) (old new : List T) (row : List (List ℕ)) (rows : List (List (List ℕ)))
    → Adds (fault (length old) row) (value row) old new → rest_of fault value old (row ∷ rows) ≡ rest_of fault value new rows
rest_passed fault value old new row rows h =
    let count : length new ≡ length old + 1 = ap length h.1 ∙ length-append old (value row ∷ []) in
    let same : new ++ map value rows ≡ old ++ (value row ∷ map value rows) = ap (λ xs. xs ++ map value rows) h.1 ∙ append_assoc old (value row ∷ []) (map value rows) in
    rw (h.0, count, same) refl

-- a row that fails ends it
pub rest_failed : {T : Type 0} (fault : ℕ → List (List ℕ) → Option RoadRefusal) (value : List (List ℕ) → T) (old : List T) (row : List (List ℕ)) (rows : List (List (List ℕ))) (why : RoadRefusal)
    → fault (length old) row ≡ Some why → rest_of fault value old (row ∷ rows) ≡ Err why
rest_failed fault value old row rows why fails = rw fails refl
