-- Lines that ask for more than one answer, and the checks of each in their order: `line`, `node`, `second`, `limit`.
use Rattle.std.specs.Prelude.{ℕ, List, [], ◌∷◌, Result, Ok, Err, ◌*◌, ◌-◌, ◌&&◌, nat_lt, nat_le, if◌then◌else◌, codes, bytes_eq, length, map, take, drop}
use Rattle.std.specs.List.{list_all}
use Rattle.cu_model.specs.Days.{day}
use Rattle.cu_model.specs.Numbers.{is_number_word, number_value}
use Rattle.cu_model.specs.Queries.{fields_of_line}
use Rattle.cu_reach.specs.declared.lines.ReachAsked.{ReachAsked}
use Rattle.cu_reach.specs.declared.lines.LatestAsked.{LatestAsked}
use Rattle.cu_reach.specs.declared.lines.ManyRefusal.{ManyRefusal}
use Rattle.cu_reach.specs.declared.lines.ManyRefusal.TheVariants.{Line, Node, Second, Limit}
use Rattle.cu_reach.specs.declared.lines.TheConstants.{LATEST_BY, MAX_TABLE}
use Rattle.cu_reach.specs.NodeFields.{TableValue}

abbrev pub checked_reach : ℕ → ℕ → ℕ → Result ReachAsked ManyRefusal
checked_reach nodes from second =
    if nat_lt from nodes then (if nat_lt second day then Ok (record { from = from; second = second }) else Err Second) else Err Node

abbrev pub reach_of_fields : ℕ → List (List ℕ) → Result ReachAsked ManyRefusal
reach_of_fields nodes (word ∷ from ∷ second ∷ []) =
    if bytes_eq word (codes "r") && is_number_word from && is_number_word second
    then checked_reach nodes (number_value from) (number_value second)
    else Err Line
reach_of_fields nodes _ = Err Line

-- all nodes from the one that a line asks, of a network with so many nodes, or the first check that fails
abbrev pub reach_of : ℕ → List ℕ → Result ReachAsked ManyRefusal
reach_of nodes line = reach_of_fields nodes (fields_of_line line)

abbrev pub checked_latest : ℕ → ℕ → ℕ → ℕ → Result LatestAsked ManyRefusal
checked_latest nodes from to by =
    if nat_lt from nodes && nat_lt to nodes
    then (if nat_le by LATEST_BY then Ok (record { from = from; to = to; by = by }) else Err Second)
    else Err Node

abbrev pub latest_of_fields : ℕ → List (List ℕ) → Result LatestAsked ManyRefusal
latest_of_fields nodes (word ∷ from ∷ to ∷ by ∷ []) =
    if bytes_eq word (codes "l") && is_number_word from && is_number_word to && is_number_word by
    then checked_latest nodes (number_value from) (number_value to) (number_value by)
    else Err Line
latest_of_fields nodes _ = Err Line

-- the latest departure that a line asks of a network with so many nodes, or the first check that fails
abbrev pub latest_of : ℕ → List ℕ → Result LatestAsked ManyRefusal
latest_of nodes line = latest_of_fields nodes (fields_of_line line)

-- a table of so many sources, the rest of the numbers its targets
abbrev pub checked_table : ℕ → ℕ → ℕ → List ℕ → Result TableValue ManyRefusal
checked_table nodes second count numbers =
    if list_all (λ number. nat_lt number nodes) numbers
    then (if nat_lt second day
    then (if nat_le (count * (length numbers - count)) MAX_TABLE
    then Ok (record { second = second; sources = take count numbers; targets = drop count numbers })
    else Err Limit)
    else Err Second)
    else Err Node

abbrev pub table_of_fields : ℕ → List (List ℕ) → Result TableValue ManyRefusal
table_of_fields nodes (word ∷ second ∷ count ∷ rest) =
    if bytes_eq word (codes "t") && list_all is_number_word (second ∷ count ∷ rest) && nat_le (number_value count) (length rest)
    then checked_table nodes (number_value second) (number_value count) (map number_value rest)
    else Err Line
table_of_fields nodes _ = Err Line

-- the table that a line asks of a network with so many nodes, or the first check that fails
abbrev pub table_of : ℕ → List ℕ → Result TableValue ManyRefusal
table_of nodes line = table_of_fields nodes (fields_of_line line)
