-- The fields of a line, one comma after another.
use Rattle.std.specs.Prelude.{ℕ, List, [], ◌∷◌, Option, Some, None, ◌≡◌}
use Rattle.std.specs.Borrow.{Bor}
use Rattle.cu_model.specs.Queries.{fields_of_line}

-- a line's first field, and what stands behind its comma where there is one
abbrev pub CutsField : List ℕ → List ℕ → Option (Bor (List ℕ)) → Type 0
CutsField line field None = fields_of_line line ≡ field ∷ []
CutsField line field (Some rest) = fields_of_line line ≡ field ∷ fields_of_line rest.now
