-- Nodes that are written in the fields of a line.
use Rattle.std.specs.Prelude.{ℕ, List, [], Option, Some, None, ◌≡◌, ◌≤◌, ◌<◌, ◌^◌, All, true, length, map, take}
use Rattle.std.specs.Borrow.{Bor}
use Rattle.cu_model.specs.Numbers.{is_number_word, number_value}
use Rattle.cu_model.specs.Queries.{fields_of_line}

-- the fields of the rest of a line; none where nothing is left
abbrev pub fields_in : Option (Bor (List ℕ)) → List (List ℕ)
fields_in None = []
fields_in (Some rest) = fields_of_line rest.now

-- a number word that may be a node's
pub record IsNodeWord (word : List ℕ) : Type 0 where
  pub number : is_number_word word ≡ true
  pub fits : number_value word < 2 ^ 32

-- the numbers of the first fields
abbrev pub nodes_in : Option (Bor (List ℕ)) → ℕ → List ℕ
nodes_in line left = map number_value (take left (fields_in line))

-- there are as many fields, and each of them may be a node's
abbrev pub AreNodes : Option (Bor (List ℕ)) → ℕ → Type 0
AreNodes line left = (left ≤ length (fields_in line)) × All IsNodeWord (take left (fields_in line))

-- what a line of a table asks for
pub record TableValue : Type 0 where
  pub second : ℕ
  pub sources : List ℕ
  pub targets : List ℕ
