-- The checks of a query line, in their order: `line`, `node`, `second`.
use Rattle.std.specs.Prelude.{ℕ, List, [], ◌∷◌, Result, Ok, Err, ◌&&◌, ◌==◌, nat_lt, if◌then◌else◌, codes, bytes_eq}
use Rattle.std.specs.List.{slice_split}
use Rattle.cu_model.specs.declared.queries.Query.{Query}
use Rattle.cu_model.specs.declared.queries.QueryRefusal.{QueryRefusal}
use Rattle.cu_model.specs.declared.queries.QueryRefusal.TheVariants.{Line, Node, Second}
use Rattle.cu_model.specs.Numbers.{is_number_word, number_value}
use Rattle.cu_model.specs.Days.{day}

-- a line's fields: its bytes cut at each comma
abbrev pub fields_of_line : List ℕ → List (List ℕ)
fields_of_line line = slice_split (λ b. b == 44) line

abbrev pub checked_query : ℕ → ℕ → ℕ → ℕ → Result Query QueryRefusal
checked_query nodes from to second =
    if nat_lt from nodes && nat_lt to nodes
    then (if nat_lt second day then Ok (record { from = from; to = to; second = second }) else Err Second)
    else Err Node

abbrev pub query_of_fields : ℕ → List (List ℕ) → Result Query QueryRefusal
query_of_fields nodes (word ∷ from ∷ to ∷ second ∷ []) =
    if bytes_eq word (codes "q") && is_number_word from && is_number_word to && is_number_word second
    then checked_query nodes (number_value from) (number_value to) (number_value second)
    else Err Line
query_of_fields nodes _ = Err Line

-- the query that a line asks of a network with so many nodes, or the first check that fails
abbrev pub query_of : ℕ → List ℕ → Result Query QueryRefusal
query_of nodes line = query_of_fields nodes (fields_of_line line)
