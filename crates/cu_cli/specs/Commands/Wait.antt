-- `wait NODES ROADS MEASURED ORDER`: the queries and edits of the source answered over a network whose profiles are measured, where waiting
-- before a road may pay.
use Rattle.std.specs.Prelude.{ℕ, List, [], ◌∷◌, ◌⊎◌, true}
use Rattle.cu_io.specs.Shelves.{ShelfState}
use Rattle.cu_model.specs.Orders.{OrderValue}
use Rattle.cu_session.specs.Waiting.{IsWaitingOutput}
use Rattle.cu_cli.specs.declared.stops.Stop.{Stop}
use Rattle.cu_cli.specs.Endings.{Answers, Ending, StopsBefore}
use Rattle.cu_cli.specs.Meanings.{Meaning, no_command, nothing_else}
use Rattle.cu_cli.specs.PreparingWaiting.{IsWaitable, PreparesWaiting, RawRead, StopsWaiting}
use Rattle.cu_cli.specs.Words.{OrderAsked, TablesAsked, order_of_word}

-- a network with measured profiles and its order were prepared, and the script is answered over all walks and all waits of it; or the first
-- refusal stopped it
abbrev pub EndsWait : TablesAsked → OrderAsked → ShelfState → ShelfState → Ending → Type 0
EndsWait tables asked before now work =
    ((read : RawRead) × (order : OrderValue) × PreparesWaiting before tables asked read order
    × Answers (IsWaitingOutput read.network order) work)
    ⊎ ((why : Stop) × StopsWaiting before now tables asked why × StopsBefore why work)

unfoldable pub waiting : TablesAsked → OrderAsked → Meaning
waiting tables asked = record { ends = EndsWait tables asked; script = true; can = IsWaitable tables asked; stops = nothing_else }

-- what the words behind `wait` ask for
abbrev pub wait_of : List (List ℕ) → Meaning
wait_of (nodes ∷ roads ∷ measured ∷ order ∷ []) =
    waiting (record { nodes = nodes; roads = roads; profiles = measured }) (order_of_word order)
wait_of _ = no_command
