-- `edit HIERARCHY EDITS OUT`: a file of edits made in a packed file, and the packed file after them stored.
use Rattle.std.specs.Prelude.{ℕ, List, [], ◌∷◌, ◌⊎◌, false, codes, length, take}
use Rattle.cu_io.specs.Lines.{lines_of}
use Rattle.cu_io.specs.Shelves.{ShelfState}
use Rattle.cu_interval.specs.Hierarchies.{HierarchyValue, IsBuilt}
use Rattle.cu_pack.specs.Spelling.{spelling}
use Rattle.cu_session.specs.Held.{AreDone}
use Rattle.cu_session.specs.Sessions.{IsFrontOf}
use Rattle.cu_cli.specs.declared.stops.Stop.{Stop}
use Rattle.cu_cli.specs.declared.stops.Stop.TheVariants as stop
use Rattle.cu_cli.specs.Endings.{Ending, EndsPacking, IsTooLarge, StopsBefore, StopsBehind, packed_file}
use Rattle.cu_cli.specs.Meanings.{Meaning, no_command}
use Rattle.cu_cli.specs.Opening.{IsOpenable, Opens, StopsOpening}
use Rattle.cu_cli.specs.Stops.{numbers_text}
use Rattle.cu_cli.specs.Words.{editing_files}

-- all lines of edits are made, and behind their replies the packed file of the hierarchy after them is stored and said, which is the
-- built one where the first is; or memory ran out behind some first lines, or the sink failed in their replies, and nothing is stored
abbrev pub EndsEditing : (out : List ℕ) → HierarchyValue → List ℕ → ShelfState → ShelfState → Ending → Type 0
EndsEditing out h text before now work =
    ((after : HierarchyValue) × (replies : List ℕ) × AreDone h (lines_of text) replies after × (IsBuilt h → IsBuilt after)
    × EndsPacking before now replies (packed_file out after) (numbers_text (codes "stored") (length (spelling after) ∷ [])) work)
    ⊎ ((n : ℕ) × (after : HierarchyValue) × AreDone h (take n (lines_of text)) work.output after × StopsBehind work.output stop.NoMemory work)
    ⊎ ((n : ℕ) × (after : HierarchyValue) × (replies : List ℕ) × AreDone h (take n (lines_of text)) replies after
    × IsFrontOf work.output replies × StopsBehind work.output stop.Sink work)

-- the lines of the file of edits are made in the hierarchy of the loaded file; or a load or a check stopped it
abbrev pub EndsEdit : (hierarchy edits out : List ℕ) → ShelfState → ShelfState → Ending → Type 0
EndsEdit hierarchy edits out before now work =
    ((h : HierarchyValue) × (text : List ℕ) × Opens before (editing_files hierarchy edits) h (text ∷ []) × EndsEditing out h text before now work)
    ⊎ ((why : Stop) × StopsOpening before now (editing_files hierarchy edits) why × StopsBefore why work)

unfoldable pub editing : (hierarchy edits out : List ℕ) → Meaning
editing hierarchy edits out =
    record { ends = EndsEdit hierarchy edits out; script = false; can = IsOpenable (editing_files hierarchy edits); stops = IsTooLarge }

-- what the words behind `edit` ask for
abbrev pub edit_of : List (List ℕ) → Meaning
edit_of (hierarchy ∷ edits ∷ out ∷ []) = editing hierarchy edits out
edit_of _ = no_command
