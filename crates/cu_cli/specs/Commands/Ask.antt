-- `ask HIERARCHY`: the queries and edits of the source answered over a packed file.
use Rattle.std.specs.Prelude.{ℕ, List, [], ◌∷◌, ◌⊎◌, true}
use Rattle.cu_io.specs.Shelves.{ShelfState}
use Rattle.cu_interval.specs.Hierarchies.{HierarchyValue, IsBuilt}
use Rattle.cu_session.specs.Held.{IsHeldOutput}
use Rattle.cu_session.specs.Replies.{IsOutput}
use Rattle.cu_cli.specs.declared.stops.Stop.{Stop}
use Rattle.cu_cli.specs.Endings.{Answers, Ending, StopsBefore}
use Rattle.cu_cli.specs.Meanings.{Meaning, no_command, nothing_else}
use Rattle.cu_cli.specs.Opening.{IsOpenable, Opens, StopsOpening}
use Rattle.cu_cli.specs.Words.{hierarchy_file}

-- the script is answered by the hierarchy of the loaded file, and where that is built, as over its network; or the load or a check
-- stopped it
abbrev pub EndsAsk : (name : List ℕ) → ShelfState → ShelfState → Ending → Type 0
EndsAsk name before now work =
    ((h : HierarchyValue) × Opens before (hierarchy_file name ∷ []) h [] × Answers (IsHeldOutput h) work
    × (IsBuilt h → Answers (IsOutput h.network h.order) work))
    ⊎ ((why : Stop) × StopsOpening before now (hierarchy_file name ∷ []) why × StopsBefore why work)

unfoldable pub asking : (name : List ℕ) → Meaning
asking name = record { ends = EndsAsk name; script = true; can = IsOpenable (hierarchy_file name ∷ []); stops = nothing_else }

-- what the words behind `ask` ask for
abbrev pub ask_of : List (List ℕ) → Meaning
ask_of (name ∷ []) = asking name
ask_of _ = no_command
