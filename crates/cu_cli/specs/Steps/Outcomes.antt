-- What a refused call makes of a run.
use Rattle.std.specs.Prelude.{◌≡◌, ◌≢◌, ◌≤◌, ◌⊎◌, ℕ, Bool, List, [], Option, Some, None, Result, Ok, Err, OnOk, OnErr}
use Rattle.cu_io.specs.Counts.{Rose}
use Rattle.cu_io.specs.Sinks.{SinkState, Wrote}
use Rattle.cu_io.specs.Shelves.{ShelfState}
use Rattle.cu_io.specs.Sources.{SourceState}
use Rattle.cu_io.specs.Transfers.{Appends, AppendsSome}
use Rattle.cu_chordal.specs.declared.closure.CloseRefusal.{CloseRefusal}
use Rattle.cu_chordal.specs.declared.closure.CloseRefusal.TheVariants as closing
use Rattle.cu_order.specs.declared.refusals.OrderRefusal.{OrderRefusal}
use Rattle.cu_order.specs.declared.refusals.OrderRefusal.TheVariants as order
use Rattle.cu_pack.specs.declared.refusals.PackRefusal.{PackRefusal}
use Rattle.cu_pack.specs.declared.refusals.PackRefusal.TheVariants as pack
use Rattle.cu_roads.specs.declared.refusals.RoadRefusal.{RoadRefusal}
use Rattle.cu_roads.specs.declared.refusals.RoadRefusal.TheVariants as road
use Rattle.cu_wait.specs.declared.refusals.MeasuredRefusal.{MeasuredRefusal}
use Rattle.cu_wait.specs.declared.refusals.MeasuredRefusal.TheVariants as measured
use Rattle.cu_cli.specs.declared.stops.Stop.{Stop}
use Rattle.cu_cli.specs.declared.stops.Stop.TheVariants as stop
use Rattle.cu_session.specs.Sessions.{IsFlushed, Leaves}
use Rattle.cu_cli.specs.Endings.{Ending}
use Rattle.cu_cli.specs.Meanings.{Meaning}
use Rattle.cu_cli.specs.Runs.{CountsFaults, IsShort, MeetsNoFault, Moves, Reads}
use Rattle.cu_cli.specs.Storing.{Stores}
use Rattle.cu_cli.specs.Stops.{said_of, status_at, status_of}

-- the stop of a refused network; want of memory has its own
abbrev pub stop_of_network : RoadRefusal → Stop
stop_of_network road.NoMemory = stop.NoMemory
stop_of_network other = stop.Network other

-- the stop of a refused text of measured profiles
abbrev pub stop_of_measured : MeasuredRefusal → Stop
stop_of_measured measured.NoMemory = stop.NoMemory
stop_of_measured other = stop.Measured other

-- the stop of a refused order
abbrev pub stop_of_order : OrderRefusal → Stop
stop_of_order order.NoMemory = stop.NoMemory
stop_of_order other = stop.Order other

-- the stop of a graph that wasn't closed
abbrev pub stop_of_close : CloseRefusal → Stop
stop_of_close closing.NoMemory = stop.NoMemory
stop_of_close closing.TooManyEdges = stop.TooManyEdges

-- the stop of bytes that are no packed file
abbrev pub stop_of_file : PackRefusal → Stop
stop_of_file pack.NoMemory = stop.NoMemory
stop_of_file other = stop.File other

-- a stop before the script is read
abbrev pub IsBeforeScript : Stop → Type 0
IsBeforeScript stop.Source = ⊥
IsBeforeScript stop.Sink = ⊥
IsBeforeScript stop.TakeLimit = ⊥
IsBeforeScript _ = Unit {0}

-- a stop that no fault is behind
abbrev pub IsRefusal : Stop → Type 0
IsRefusal (stop.Fault whose) = ⊥
IsRefusal why = IsBeforeScript why

-- why the work stopped, if it did
abbrev pub stop_of : {T : Type 0} → Result T Stop → Option Stop
stop_of (Ok value) = None
stop_of (Err why) = Some why

-- a text that is empty, or ends with a line feed, was written and flushed; or, after a fault that the count shows, some first bytes of it
-- written, and then it isn't empty
pub record Said {T E : Type 0} (before now : SinkState) (result : Result T E) (text : List ℕ) : Type 0 where
  pub wrote : Wrote before now result text
  pub flushed : OnOk result (IsFlushed before now)
  pub some : OnErr result (text ≢ [])

-- a stop was said, and its status answered; or the sink failed in its line
abbrev pub SaysStop : Stop → SinkState → SinkState → ℕ → Type 0
SaysStop why before now status =
    ((status ≡ status_of why) × Appends before.written now.written (said_of why) × IsFlushed before now)
    ⊎ ((status ≡ 8) × (said_of why ≢ []) × AppendsSome before.written now.written (said_of why) × Rose before.faults now.faults)

pub record Refuses (why : Stop) (before now : SinkState) (status : ℕ) : Type 0 where
  pub said : SaysStop why before now status
  pub quiet : status ≢ 8 → now.faults ≡ before.faults
  pub later : before.faults ≤ now.faults
  pub rises : before.flushed ≤ now.flushed

-- what the shelf, the source and the sink of a run tell
pub record World : Type 0 where
  pub shelf : ShelfState
  pub source : SourceState
  pub sink : SinkState

abbrev pub world_of : ShelfState → SourceState → SinkState → World
world_of shelf source sink = record { shelf = shelf; source = source; sink = sink }

-- where nothing fails, and the source is short, nothing stops a command that can be done but want of memory and what its meaning says
abbrev pub Completes : Meaning → Option Stop → World → World → Type 0
Completes meaning None before now = Unit {0}
Completes meaning (Some why) before now =
    meaning.can before.shelf → IsShort before.source
    → MeetsNoFault before.shelf now.shelf before.source now.source before.sink now.sink → (why ≡ stop.NoMemory) ⊎ meaning.stops why

-- the work, which may answer a script, ended as `Ends` says, and moved, stored and left so much
pub record Did (script : Bool) (why : Option Stop) (Ends : ShelfState → ShelfState → Ending → Type 0) (before now : World) : Type 0 where
  pub work : Ending
  pub stop : work.stop ≡ why
  pub ended : Ends before.shelf now.shelf work
  pub reads : Reads script before.source now.source work
  pub moves : Moves before.source now.source before.sink now.sink work
  pub stores : Stores before.shelf.held work.stored now.shelf.held
  pub leaves : Leaves script (status_at why) before.source now.source before.sink now.sink
  pub faults : CountsFaults why before.shelf now.shelf

-- the work of a command of this meaning
pub record Works (meaning : Meaning) (why : Option Stop) (before now : World) : Type 0 where
  pub did : Did meaning.script why meaning.ends before now
  pub complete : Completes meaning why before now
