-- `make START WIDTH HEIGHT NODES ROADS PROFILES`: the tables of a grid network, stored.
use Rattle.std.specs.Prelude.{ℕ, List, [], ◌∷◌, ◌*◌, ◌⊎◌, false, codes, length}
use Rattle.cu_io.specs.Shelves.{ShelfState}
use Rattle.cu_roads.specs.Written.{ThreeTexts, written_network}
use Rattle.cu_cli.specs.declared.stops.Role.TheVariants as role
use Rattle.cu_cli.specs.declared.stops.Stop.TheVariants as stop
use Rattle.cu_cli.specs.Endings.{Ending, EndsStoring, StopsBefore}
use Rattle.cu_cli.specs.Meanings.{Meaning, given, no_command, nothing_else}
use Rattle.cu_cli.specs.Stops.{numbers_text}
use Rattle.cu_cli.specs.Storing.{FileMade}
use Rattle.cu_cli.specs.Words.{GridAsked, TablesAsked, grid_of, grid_read}

-- the files of these tables
abbrev pub tables_made : TablesAsked → ThreeTexts → List FileMade
tables_made tables texts =
    record { role = role.Nodes; name = tables.nodes; bytes = texts.nodes }
    ∷ record { role = role.Roads; name = tables.roads; bytes = texts.roads }
    ∷ record { role = role.Profiles; name = tables.profiles; bytes = texts.profiles }
    ∷ []

-- what is said of a grid that is stored: its nodes, its roads and its profiles
abbrev pub made_text : GridAsked → List ℕ
made_text grid = numbers_text (codes "made") (grid.width * grid.height ∷ length (grid_read grid).network.arcs ∷ 64 ∷ [])

-- the three texts of the grid are stored and said; or memory ran out before
abbrev pub EndsMake : TablesAsked → GridAsked → ShelfState → ShelfState → Ending → Type 0
EndsMake tables grid before now work =
    EndsStoring before now [] (tables_made tables (written_network (grid_read grid))) (made_text grid) work
    ⊎ StopsBefore stop.NoMemory work

unfoldable pub making : TablesAsked → GridAsked → Meaning
making tables grid = record { ends = EndsMake tables grid; script = false; can = λ before. Unit {0}; stops = nothing_else }

-- what the words behind `make` ask for
abbrev pub make_of : List (List ℕ) → Meaning
make_of (start ∷ width ∷ height ∷ nodes ∷ roads ∷ profiles ∷ []) =
    given (grid_of start width height) (making (record { nodes = nodes; roads = roads; profiles = profiles }))
make_of _ = no_command
