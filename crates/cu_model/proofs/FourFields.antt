-- A line of more than four fields asks no query.
use Rattle.std.proofs.Common.{◌≡◌, ◌==◌, cond, ℕ, Bool, List, [], ◌∷◌, true, false, refl}
use Rattle.std.specs.Prelude.{Err}
use Rattle.std.specs.List.{slice_split, onto_first}
use Rattle.cu_model.specs.declared.queries.QueryRefusal.TheVariants.{Line}
use Rattle.cu_model.specs.Queries.{fields_of_line, query_of_fields}

onto_some : {X : Type 0} (x : X) (parts : List (List X)) → (y : List X) × (ys : List (List X)) × (onto_first x parts ≡ y ∷ ys)
onto_some x [] = (_, _, refl)
onto_some x (part ∷ parts) = (_, _, refl)

split_some : {X : Type 0} (p : X → Bool) (xs : List X) → (y : List X) × (ys : List (List X)) × (slice_split p xs ≡ y ∷ ys)
split_some p [] = ([], [], refl)
split_some p (x ∷ xs) = elim (p x) as (λ b. (y : List _) × (ys : List (List _)) × (cond b ([] ∷ slice_split p xs) (onto_first x (slice_split p xs)) ≡ y ∷ ys)) [
  | true ↦ ([], slice_split p xs, refl)
  | false ↦ onto_some x (slice_split p xs)
]

pub five_or_more : (fields : List (List ℕ)) (a b c d : List ℕ) (rest : List ℕ) (nodes : ℕ) → fields ≡ a ∷ b ∷ c ∷ d ∷ fields_of_line rest → query_of_fields nodes fields ≡ Err Line
five_or_more fields a b c d rest nodes e =
    let (y, ys, more) = split_some (λ x. x == 44) rest in
    rw (e, more) refl
