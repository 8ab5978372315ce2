-- `migrate HIERARCHY OUT`: the packed file, in version 2, of the hierarchy of a packed file, stored.
use Rattle.std.specs.Prelude.{ℕ, List, [], ◌∷◌, ◌⊎◌, false, codes, length}
use Rattle.cu_io.specs.Shelves.{ShelfState}
use Rattle.cu_interval.specs.Hierarchies.{HierarchyValue}
use Rattle.cu_pack.specs.Spelling.{spelling}
use Rattle.cu_cli.specs.declared.stops.Stop.{Stop}
use Rattle.cu_cli.specs.Endings.{Ending, EndsPacking, IsTooLarge, StopsBefore, packed_file}
use Rattle.cu_cli.specs.Meanings.{Meaning, no_command}
use Rattle.cu_cli.specs.Opening.{IsOpenable, Opens, StopsOpening}
use Rattle.cu_cli.specs.Stops.{numbers_text}
use Rattle.cu_cli.specs.Words.{hierarchy_file}

-- what is said of a packed file that is stored: its bytes
abbrev pub migrated_text : ℕ → List ℕ
migrated_text bytes = numbers_text (codes "migrated") (bytes ∷ [])

-- the packed file of the loaded hierarchy is stored and said; or a load or a check stopped it
abbrev pub EndsMigrate : (hierarchy out : List ℕ) → ShelfState → ShelfState → Ending → Type 0
EndsMigrate hierarchy out before now work =
    ((h : HierarchyValue) × Opens before (hierarchy_file hierarchy ∷ []) h []
    × EndsPacking before now [] (packed_file out h) (migrated_text (length (spelling h))) work)
    ⊎ ((why : Stop) × StopsOpening before now (hierarchy_file hierarchy ∷ []) why × StopsBefore why work)

unfoldable pub migrating : (hierarchy out : List ℕ) → Meaning
migrating hierarchy out =
    record { ends = EndsMigrate hierarchy out; script = false; can = IsOpenable (hierarchy_file hierarchy ∷ []); stops = IsTooLarge }

-- what the words behind `migrate` ask for
abbrev pub migrate_of : List (List ℕ) → Meaning
migrate_of (hierarchy ∷ out ∷ []) = migrating hierarchy out
migrate_of _ = no_command
