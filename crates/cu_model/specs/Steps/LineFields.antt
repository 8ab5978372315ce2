-- The four fields of a query's line.
use Rattle.std.specs.Prelude.{ℕ, List, [], ◌∷◌, Option, Some, None, Err, ◌≡◌}
use Rattle.cu_model.specs.declared.queries.QueryRefusal.TheVariants.{Line}
use Rattle.cu_model.specs.declared.queries.Fields.{Fields}
use Rattle.cu_model.specs.Queries.{query_of_fields}

-- these four fields, or none where a line of so many fields asks no query
abbrev pub HasFour : List (List ℕ) → Option Fields → Type 0
HasFour fields None = (nodes : ℕ) → query_of_fields nodes fields ≡ Err Line
HasFour fields (Some four) = fields ≡ four.word.now ∷ four.from.now ∷ four.to.now ∷ four.second.now ∷ []
