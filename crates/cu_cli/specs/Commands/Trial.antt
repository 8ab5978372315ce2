-- `trial START WIDTH HEIGHT TURNS`: queries and edits drawn over a grid, and what they come to.
use Rattle.std.specs.Prelude.{ℕ, List, [], ◌∷◌, ◌⊎◌, ◌≡◌, false}
use Rattle.cu_io.specs.Shelves.{ShelfState}
use Rattle.cu_model.specs.Orders.{OrderValue}
use Rattle.cu_chordal.specs.Edges.{HasTooManyEdges}
use Rattle.cu_cli.specs.declared.stops.Stop.TheVariants as stop
use Rattle.cu_cli.specs.declared.commands.trial.turns.TheConstants.{MAX_TURNS}
use Rattle.cu_cli.specs.Endings.{Ending, SaysDone, StopsBefore}
use Rattle.cu_cli.specs.Meanings.{Meaning, given, no_command, nothing_else}
use Rattle.cu_cli.specs.Trials.{IsGridOrder, IsTrial}
use Rattle.cu_cli.specs.Words.{GridAsked, grid_of, grid_read, number_within}

-- its line is said; or the graph has too many edges, or memory ran out
abbrev pub EndsTrial : GridAsked → (turns : ℕ) → ShelfState → ShelfState → Ending → Type 0
EndsTrial grid turns before now work =
    ((text : List ℕ) × IsTrial grid turns text × SaysDone [] text work × (work.taken ≡ []) × (work.stored ≡ []))
    ⊎ ((order : OrderValue) × IsGridOrder grid order × HasTooManyEdges (grid_read grid).network order × StopsBefore stop.TooManyEdges work)
    ⊎ StopsBefore stop.NoMemory work

-- a grid whose graph hasn't too many edges
abbrev pub IsTriable : GridAsked → ShelfState → Type 0
IsTriable grid before = (order : OrderValue) → IsGridOrder grid order → HasTooManyEdges (grid_read grid).network order → ⊥

unfoldable pub trying : GridAsked → (turns : ℕ) → Meaning
trying grid turns = record { ends = EndsTrial grid turns; script = false; can = IsTriable grid; stops = nothing_else }

-- what the words behind `trial` ask for
abbrev pub trial_of : List (List ℕ) → Meaning
trial_of (start ∷ width ∷ height ∷ turns ∷ []) =
    given (grid_of start width height) (λ grid. given (number_within 0 MAX_TURNS turns) (trying grid))
trial_of _ = no_command
