-- Order texts: one node number a row, with no header; row r names the node of rank r.
use Rattle.std.specs.Prelude.{ℕ, List, [], ◌∷◌, ◌++◌, Bool, not, Option, Some, None, Result, Ok, Err, ◌&&◌, ◌==◌, nat_lt, eqb, length, if◌then◌else◌}
use Rattle.std.specs.List.{list_any}
use Rattle.cu_model.specs.Numbers.{is_number_word, number_value}
use Rattle.cu_tables.specs.Checks.{unless}
use Rattle.cu_tables.specs.Tables.{field_of, table}
use Rattle.cu_order.specs.declared.refusals.OrderRefusal.{OrderRefusal}
use Rattle.cu_order.specs.declared.refusals.OrderRefusal.TheVariants.{Number, Range, Twice, Count}

-- the node that a row names
abbrev pub node_of_row : List (List ℕ) → ℕ
node_of_row row = number_value (field_of row 0)

-- whether a row is one field that is a number word
abbrev pub is_node_row : List (List ℕ) → Bool
is_node_row row = (length row == 1) && is_number_word (field_of row 0)

-- the first check that a row fails, where there are so many nodes and the rows before it name these
abbrev pub node_fault : ℕ → List ℕ → List (List ℕ) → Option OrderRefusal
node_fault nodes before row =
    if not (is_node_row row) then Some (Number (length before))
    else if not (nat_lt (node_of_row row) nodes) then Some (Range (length before))
    else if list_any (eqb (node_of_row row)) before then Some (Twice (length before))
    else None

-- the nodes of all rows, where the rows before these name the first of them, or the first check that fails
abbrev pub nodes_from : ℕ → List ℕ → List (List (List ℕ)) → Result (List ℕ) OrderRefusal
nodes_from nodes before [] = if nat_lt (length before) nodes then Err (Count (length before)) else Ok before
nodes_from nodes before (row ∷ rows) = unless (node_fault nodes before row) (nodes_from nodes (before ++ (node_of_row row ∷ [])) rows)

-- the node at each rank in the order of so many nodes that a text gives, or the first check that fails
unfoldable pub order_of : ℕ → List ℕ → Result (List ℕ) OrderRefusal
order_of nodes text = nodes_from nodes [] (table text)
