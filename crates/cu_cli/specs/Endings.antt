-- How the work of a command ends: what stopped it, and what it took, wrote and stored.
use Rattle.std.specs.Prelude.{ℕ, List, [], ◌∷◌, ◌++◌, ◌≡◌, ◌<◌, ◌≤◌, ◌⊎◌, Option, Some, None, length, take}
use Rattle.cu_io.specs.Shelves.{ShelfState}
use Rattle.cu_interval.specs.Hierarchies.{HierarchyValue}
use Rattle.cu_pack.specs.Spelling.{spelling}
use Rattle.cu_session.specs.declared.stops.SessionStop.{SessionStop}
use Rattle.cu_session.specs.declared.stops.SessionStop.TheVariants as session
use Rattle.cu_session.specs.Sessions.{AnswersBy}
use Rattle.cu_cli.specs.declared.stops.Role.TheVariants as role
use Rattle.cu_cli.specs.declared.stops.Stop.{Stop}
use Rattle.cu_cli.specs.declared.stops.Stop.TheVariants as stop
use Rattle.cu_cli.specs.Stops.{line_of}
use Rattle.cu_cli.specs.Storing.{FileMade, FileStored, StopsStoring, all_stored}

-- how a run ended: why it stopped, if it did before all was done; the bytes that it took and those that it wrote; and the files that it
-- stored, in order
pub record Ending : Type 0 where
  pub stop : Option Stop
  pub taken : List ℕ
  pub output : List ℕ
  pub stored : List FileStored

-- how the answering of a script ended, as a run says it
abbrev pub ending_of : Option SessionStop → Option Stop
ending_of None = None
ending_of (Some session.Source) = Some stop.Source
ending_of (Some session.Sink) = Some stop.Sink
ending_of (Some session.NoMemory) = Some stop.NoMemory
ending_of (Some session.TakeLimit) = Some stop.TakeLimit

-- the script is answered as `Output` says, the work ended as the answering did, and nothing was stored
abbrev pub Answers : (List (List ℕ) → List ℕ → Type 0) → Ending → Type 0
Answers Output work =
    (end : Option SessionStop) × (work.stop ≡ ending_of end) × AnswersBy Output end work.taken work.output × (work.stored ≡ [])

-- the work stopped with nothing taken or stored, and these replies written
abbrev pub StopsBehind : List ℕ → Stop → Ending → Type 0
StopsBehind replies why work = (work.stop ≡ Some why) × (work.taken ≡ []) × (work.output ≡ replies) × (work.stored ≡ [])

-- the work stopped before anything was taken, written or stored
abbrev pub StopsBefore : Stop → Ending → Type 0
StopsBefore why work = StopsBehind [] why work

-- behind these replies a line says what was done; or the sink failed in it
abbrev pub SaysDone : List ℕ → List ℕ → Ending → Type 0
SaysDone replies text work =
    ((work.stop ≡ None) × (work.output ≡ replies ++ line_of text))
    ⊎ ((work.stop ≡ Some stop.Sink) × ((n : ℕ) × (work.output ≡ replies ++ take n (line_of text))))

-- behind these replies the files are stored and it is said; or the first store that is refused stops the work
abbrev pub EndsStoring : ShelfState → ShelfState → List ℕ → List FileMade → List ℕ → Ending → Type 0
EndsStoring before now replies files text work =
    (work.taken ≡ [])
    × (((work.stored ≡ all_stored files) × SaysDone replies text work)
    ⊎ ((why : Stop) × StopsStoring before now files why work.stored × (work.stop ≡ Some why) × (work.output ≡ replies)))

-- the packed file of a hierarchy
abbrev pub packed_file : List ℕ → HierarchyValue → FileMade
packed_file out h = record { role = role.Out; name = out; bytes = spelling h }

-- behind these replies the packed file is stored and it is said; or it has more bytes than the limit, and nothing is stored
abbrev pub EndsPacking : ShelfState → ShelfState → List ℕ → FileMade → List ℕ → Ending → Type 0
EndsPacking before now replies file text work =
    ((length file.bytes ≤ before.most) × EndsStoring before now replies (file ∷ []) text work)
    ⊎ ((before.most < length file.bytes) × StopsBehind replies (stop.TooLarge (length file.bytes)) work)

-- a file has too many bytes
abbrev pub IsTooLarge : Stop → Type 0
IsTooLarge why = (bytes : ℕ) × (why ≡ stop.TooLarge bytes)
