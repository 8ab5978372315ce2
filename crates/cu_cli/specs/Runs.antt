-- What a run answers, writes, takes and stores, by its words, its files and its input.
use Rattle.std.specs.Prelude.{ℕ, List, [], ◌++◌, ◌≡◌, ◌≢◌, ◌<◌, ◌⊎◌, Bool, false, true, Option, Some, None, IfSome, length, take}
use Rattle.cu_io.specs.Counts.{Rose}
use Rattle.cu_io.specs.Shelves.{ShelfState}
use Rattle.cu_io.specs.Sinks.{SinkState}
use Rattle.cu_io.specs.Sources.{SourceState}
use Rattle.cu_io.specs.Transfers.{Appends, Takes}
use Rattle.cu_session.specs.Sessions.{take_limit}
use Rattle.cu_cli.specs.declared.stops.Role.TheVariants as role
use Rattle.cu_cli.specs.declared.stops.Stop.{Stop}
use Rattle.cu_cli.specs.declared.stops.Stop.TheVariants as stop
use Rattle.cu_cli.specs.Commands.{meaning_of}
use Rattle.cu_cli.specs.Endings.{Ending}
use Rattle.cu_cli.specs.Meanings.{Meaning}
use Rattle.cu_cli.specs.Stops.{said_at, status_of}

-- the fault of a file stopped the work, and a count of loads or stores rose; or none changed
abbrev pub CountsFaults : Option Stop → ShelfState → ShelfState → Type 0
CountsFaults (Some (stop.Fault whose)) before now =
    (name : List ℕ) × (Rose (before.load_faults name) (now.load_faults name) ⊎ Rose (before.store_faults name) (now.store_faults name))
CountsFaults _ before now = (now.load_faults ≡ before.load_faults) × (now.store_faults ≡ before.store_faults)

-- the source was read to its end: no byte is left, where it tells
abbrev pub IsReadToEnd : SourceState → SourceState → Type 0
IsReadToEnd before now = IfSome before.left (λ _. now.left ≡ Some [])

-- What was read of a script, by what stopped the work. All of it, where nothing did, and where what did comes behind the last line: the
-- file to be stored is too large, or its store met a fault. Where memory ran out all of it, or nothing was taken or stored; where the sink
-- failed all of it, or nothing was stored. Where the source failed, or gave as much as a run takes, the replies say how far it was read.
-- Where anything else stopped the work, nothing was taken.
abbrev pub ReadsScript : Option Stop → SourceState → SourceState → Ending → Type 0
ReadsScript None before now work = IsReadToEnd before now
ReadsScript (Some (stop.TooLarge bytes)) before now work = IsReadToEnd before now
ReadsScript (Some (stop.Fault role.Out)) before now work = IsReadToEnd before now
ReadsScript (Some stop.NoMemory) before now work = IsReadToEnd before now ⊎ ((work.taken ≡ []) × (work.stored ≡ []))
ReadsScript (Some stop.Sink) before now work = IsReadToEnd before now ⊎ (work.stored ≡ [])
ReadsScript (Some stop.Source) before now work = Unit {0}
ReadsScript (Some stop.TakeLimit) before now work = Unit {0}
ReadsScript _ before now work = work.taken ≡ []

-- what work read of the source: of one that is no script, nothing
abbrev pub Reads : (script : Bool) → SourceState → SourceState → Ending → Type 0
Reads false before now work = work.taken ≡ []
Reads true before now work = ReadsScript work.stop before now work

-- behind what was written stands what is said of the stop; or, where there is a line and the sink failed in it, first bytes of that line
abbrev pub Closes : Ending → Ending → Type 0
Closes work ending =
    ((ending.stop ≡ work.stop) × (ending.output ≡ work.output ++ said_at work.stop))
    ⊎ ((ending.stop ≡ Some stop.Sink) × (said_at work.stop ≢ []) × ((n : ℕ) × (ending.output ≡ work.output ++ take n (said_at work.stop))))

-- the command of the words did its work, and what stopped it was said
abbrev pub EndsRun : ShelfState → ShelfState → SourceState → SourceState → List (List ℕ) → Ending → Type 0
EndsRun before now source_before source_now words ending =
    (work : Ending) × (ending.taken ≡ work.taken) × (ending.stored ≡ work.stored) × (meaning_of words).ends before now work
    × Reads (meaning_of words).script source_before source_now work × CountsFaults work.stop before now × Closes work ending

-- the source gave the bytes taken, the sink got the bytes written
abbrev pub Moves : SourceState → SourceState → SinkState → SinkState → Ending → Type 0
Moves source_before source_now sink_before sink_now ending =
    Takes source_before.left source_now.left ending.taken × Appends sink_before.written sink_now.written ending.output

-- the source tells fewer bytes than a run takes
abbrev pub IsShort : SourceState → Type 0
IsShort source = (input : List ℕ) × (source.left ≡ Some input) × (length input < take_limit)

-- no load, no store, no read and no write met a fault
pub record MeetsNoFault (shelf_before shelf_now : ShelfState) (source_before source_now : SourceState) (sink_before sink_now : SinkState) : Type 0 where
  pub loads : (name : List ℕ) → Rose (shelf_before.load_faults name) (shelf_now.load_faults name) → ⊥
  pub stores : (name : List ℕ) → Rose (shelf_before.store_faults name) (shelf_now.store_faults name) → ⊥
  pub source : Rose source_before.faults source_now.faults → ⊥
  pub sink : Rose sink_before.faults sink_now.faults → ⊥

-- the status is that of what may stop the command, besides want of memory, though nothing fails
abbrev pub MayStop : Meaning → ℕ → Type 0
MayStop meaning status = (why : Stop) × meaning.stops why × (status ≡ status_of why)
