-- `order NODES ROADS PROFILES OUT`: the order of a network by dissection, stored.
use Rattle.std.specs.Prelude.{ℕ, List, [], ◌∷◌, ◌⊎◌, ◌≡◌, Option, Some, false, codes, map}
use Rattle.csv.proofs.RoundTrip.{rows_text}
use Rattle.cu_io.specs.Shelves.{ShelfState}
use Rattle.cu_model.specs.Orders.{OrderValue, IsOrder}
use Rattle.cu_order.specs.Written.{node_row}
use Rattle.cu_roads.specs.NetworkTexts.{NetworkRead}
use Rattle.cu_cli.specs.declared.stops.Role.TheVariants as role
use Rattle.cu_cli.specs.declared.stops.Stop.{Stop}
use Rattle.cu_cli.specs.Endings.{Ending, EndsStoring, StopsBefore}
use Rattle.cu_cli.specs.Meanings.{Meaning, no_command, nothing_else}
use Rattle.cu_cli.specs.Preparing.{IsOrderGiven, ReadsTables, StopsTables}
use Rattle.cu_cli.specs.Stops.{numbers_text}
use Rattle.cu_cli.specs.Storing.{FileMade}
use Rattle.cu_cli.specs.Words.{Dissected, TablesAsked, network_files}

-- the file of an order: the node of each rank in turn
abbrev pub order_files_made : List ℕ → OrderValue → List FileMade
order_files_made out order = record { role = role.Out; name = out; bytes = rows_text (map node_row order.node_at) } ∷ []

-- the tables are read, and their dissection's order is stored, and said of how many nodes; or the first refusal stopped it
abbrev pub EndsOrder : TablesAsked → (out : List ℕ) → ShelfState → ShelfState → Ending → Type 0
EndsOrder tables out before now work =
    ((read : NetworkRead) × (order : OrderValue) × ReadsTables before (network_files tables) read [] × IsOrder order
    × IsOrderGiven Dissected read [] order
    × EndsStoring before now [] (order_files_made out order) (numbers_text (codes "ordered") (read.network.nodes ∷ [])) work)
    ⊎ ((why : Stop) × StopsTables before now (network_files tables) why × StopsBefore why work)

-- tables that are there, within the limit, and name a network
abbrev pub IsOrderable : TablesAsked → ShelfState → Type 0
IsOrderable tables before =
    (files : List ℕ → Option (List ℕ)) × (read : NetworkRead) × (before.held ≡ Some files)
    × ReadsTables before (network_files tables) read []

unfoldable pub ordering : TablesAsked → (out : List ℕ) → Meaning
ordering tables out = record { ends = EndsOrder tables out; script = false; can = IsOrderable tables; stops = nothing_else }

-- what the words behind `order` ask for
abbrev pub order_of : List (List ℕ) → Meaning
order_of (nodes ∷ roads ∷ profiles ∷ out ∷ []) = ordering (record { nodes = nodes; roads = roads; profiles = profiles }) out
order_of _ = no_command
