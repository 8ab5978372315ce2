-- `measure MEASURED OUT`: the table of the profiles that stand for measured ones, stored.
use Rattle.std.specs.Prelude.{ℕ, List, [], ◌∷◌, ◌≡◌, ◌⊎◌, Option, Some, Result, Ok, Err, false, codes, length}
use Rattle.cu_io.specs.Shelves.{ShelfState}
use Rattle.cu_model.specs.declared.profiles.Piece.{Piece}
use Rattle.cu_profile.specs.Written.{table_of}
use Rattle.csv.proofs.RoundTrip.{rows_text}
use Rattle.cu_wait.specs.declared.points.Point.{Point}
use Rattle.cu_wait.specs.declared.refusals.MeasuredRefusal.{MeasuredRefusal}
use Rattle.cu_wait.specs.Converted.{AreConverted}
use Rattle.cu_wait.specs.MeasuredTexts.{measured_of_text}
use Rattle.cu_cli.specs.declared.stops.Role.TheVariants as role
use Rattle.cu_cli.specs.declared.stops.Stop.{Stop}
use Rattle.cu_cli.specs.declared.stops.Stop.TheVariants as stop
use Rattle.cu_cli.specs.Endings.{Ending, EndsStoring, StopsBefore}
use Rattle.cu_cli.specs.Meanings.{Meaning, no_command, nothing_else}
use Rattle.cu_cli.specs.Preparing.{IsLoaded, StopsLoad}
use Rattle.cu_cli.specs.Stops.{numbers_text}
use Rattle.cu_cli.specs.Storing.{FileMade}
use Rattle.cu_cli.specs.Words.{FileAsked}

-- the file of measured profiles
abbrev pub measured_file : List ℕ → FileAsked
measured_file name = record { role = role.Profiles; name = name }

-- the file of a table of profiles
abbrev pub profiles_file : List ℕ → List (List Piece) → FileMade
profiles_file out profiles = record { role = role.Out; name = out; bytes = rows_text (table_of profiles) }

-- what is said of profiles that are stored: how many they are
abbrev pub measured_text : ℕ → List ℕ
measured_text profiles = numbers_text (codes "measured") (profiles ∷ [])

-- the first check that a text of measured profiles fails, or memory ran out
abbrev pub StopsMeasured : Result (List (List Point)) MeasuredRefusal → Stop → Type 0
StopsMeasured named (stop.Measured refusal) = named ≡ Err refusal
StopsMeasured named stop.NoMemory = Unit {0}
StopsMeasured named _ = ⊥

-- the load, or the reading behind it, stops the run so
abbrev pub StopsMeasuring : ShelfState → ShelfState → FileAsked → Stop → Type 0
StopsMeasuring before now file why =
    StopsLoad before now file why ⊎ ((text : List ℕ) × IsLoaded before file text × StopsMeasured (measured_of_text text) why)

-- the measured profiles were read, and the table of the profiles that stand for them is stored and said; or the first refusal stopped it
abbrev pub EndsMeasure : (measured out : List ℕ) → ShelfState → ShelfState → Ending → Type 0
EndsMeasure measured out before now work =
    ((text : List ℕ) × (points : List (List Point)) × (profiles : List (List Piece)) × IsLoaded before (measured_file measured) text
    × (measured_of_text text ≡ Ok points) × AreConverted points profiles
    × EndsStoring before now [] (profiles_file out profiles ∷ []) (measured_text (length profiles)) work)
    ⊎ ((why : Stop) × StopsMeasuring before now (measured_file measured) why × StopsBefore why work)

-- a file that is there, within the limit, and names measured profiles
abbrev pub IsMeasurable : (measured : List ℕ) → ShelfState → Type 0
IsMeasurable measured before =
    (files : List ℕ → Option (List ℕ)) × (text : List ℕ) × (points : List (List Point)) × (before.held ≡ Some files)
    × IsLoaded before (measured_file measured) text × (measured_of_text text ≡ Ok points)

unfoldable pub measuring : (measured out : List ℕ) → Meaning
measuring measured out =
    record { ends = EndsMeasure measured out; script = false; can = IsMeasurable measured; stops = nothing_else }

-- what the words behind `measure` ask for
abbrev pub measure_of : List (List ℕ) → Meaning
measure_of (measured ∷ out ∷ []) = measuring measured out
measure_of _ = no_command
