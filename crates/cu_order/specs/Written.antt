-- The row that a node of an order is written as.
use Rattle.std.specs.Prelude.{ℕ, List, [], ◌∷◌, decimal}

abbrev pub node_row : ℕ → List (List ℕ)
node_row node = decimal node ∷ []
