-- What a reader of an order keeps from row to row.
use Rattle.std.specs.Prelude.{ℕ, List, Bool, false, Option, Some, None, ◌≡◌, ◌≢◌, ◌≤◌, ◌<◌, eqb, length, All, slice_index_or, if◌then◌else◌}
use Rattle.std.specs.List.{AllPairs, list_any}
use Rattle.cu_tables.specs.Tables.{field_of, kept_number}
use Rattle.cu_order.specs.OrderTexts.{is_node_row}

-- the number that a row is, none where it isn't one
abbrev pub number_of_row : List (List ℕ) → Option ℕ
number_of_row row = if is_node_row row then Some (kept_number (field_of row 0)) else None

-- the nodes of the rows so far, each once, and a flag for each node that tells whether it is one of them
pub record IsListed (seen : List Bool) (nodes : List ℕ) : Type 0 where
  pub told : (node : ℕ) → slice_index_or seen node false ≡ list_any (eqb node) nodes
  pub in_range : All (λ node. node < length seen) nodes
  pub once : AllPairs (λ first later. first ≢ later) nodes
  pub few : length nodes ≤ length seen
