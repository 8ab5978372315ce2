-- `serve NODES ROADS PROFILES ORDER`: the queries and edits of the source answered over a network.
use Rattle.std.specs.Prelude.{ℕ, List, [], ◌∷◌, ◌⊎◌, true}
use Rattle.cu_io.specs.Shelves.{ShelfState}
use Rattle.cu_model.specs.Orders.{OrderValue}
use Rattle.cu_roads.specs.NetworkTexts.{NetworkRead}
use Rattle.cu_session.specs.Replies.{IsOutput}
use Rattle.cu_cli.specs.declared.stops.Stop.{Stop}
use Rattle.cu_cli.specs.Endings.{Answers, Ending, StopsBefore}
use Rattle.cu_cli.specs.Meanings.{Meaning, no_command, nothing_else}
use Rattle.cu_cli.specs.Preparing.{IsServable, Prepares, StopsPreparing}
use Rattle.cu_cli.specs.Words.{OrderAsked, TablesAsked, order_of_word}

-- a network and its order were prepared, and the script is answered over the network; or the first refusal stopped it
abbrev pub EndsServe : TablesAsked → OrderAsked → ShelfState → ShelfState → Ending → Type 0
EndsServe tables asked before now work =
    ((read : NetworkRead) × (order : OrderValue) × Prepares before tables asked read order × Answers (IsOutput read.network order) work)
    ⊎ ((why : Stop) × StopsPreparing before now tables asked why × StopsBefore why work)

unfoldable pub serving : TablesAsked → OrderAsked → Meaning
serving tables asked = record { ends = EndsServe tables asked; script = true; can = IsServable tables asked; stops = nothing_else }

-- what the words behind `serve` ask for
abbrev pub serve_of : List (List ℕ) → Meaning
serve_of (nodes ∷ roads ∷ profiles ∷ order ∷ []) =
    serving (record { nodes = nodes; roads = roads; profiles = profiles }) (order_of_word order)
serve_of _ = no_command
