-- How the answering of a script, or of a file of edits, ends.
use Rattle.std.specs.Prelude.{ℕ, List, [], ◌++◌, ◌+◌, ◌≡◌, ◌≢◌, ◌<◌, ◌≤◌, ◌⊎◌, ◌^◌, Bool, true, Option, Some, None, IfSome}
use Rattle.std.specs.Prelude.{Result, Ok, Err, length, take}
use Rattle.std.specs.List.{sum_by}
use Rattle.cu_io.specs.Counts.{Rose}
use Rattle.cu_io.specs.Lines.{lines_of, ended_lines_of}
use Rattle.cu_io.specs.Sinks as sinks
use Rattle.cu_io.specs.Sinks.{SinkState}
use Rattle.cu_io.specs.Sources.{SourceState}
use Rattle.cu_io.specs.Transfers.{Appends, Takes}
use Rattle.cu_model.specs.Orders.{OrderValue}
use Rattle.cu_interval.specs.Hierarchies.{HierarchyValue, IsBuilt}
use Rattle.cu_wait.specs.Networks.{RawNetwork}
use Rattle.cu_session.specs.declared.stops.SessionStop.{SessionStop}
use Rattle.cu_session.specs.declared.stops.SessionStop.TheVariants as stop
use Rattle.cu_session.specs.Held.{AreDone, IsHeldOutput}
use Rattle.cu_session.specs.Replies.{IsOutput}
use Rattle.cu_session.specs.Scripts.{AreReplied, IsLineReply, line_limit}
use Rattle.cu_session.specs.Waiting.{IsWaitingOutput}

-- why the answering stopped, if it did
abbrev pub stop_of : {T : Type 0} → Result T SessionStop → Option SessionStop
stop_of (Ok value) = None
stop_of (Err why) = Some why

-- the most bytes taken in a run
abbrev pub take_limit : ℕ
take_limit = 2 ^ 40

-- these are first bytes of the text
abbrev pub IsFrontOf : List ℕ → List ℕ → Type 0
IsFrontOf bytes text = (n : ℕ) × (bytes ≡ take n text)

-- how many bytes these lines have, with a line feed behind each
abbrev pub line_bytes : List (List ℕ) → ℕ
line_bytes lines = sum_by (λ line. length line + 1) lines

-- The sink failed in the reply to a line, of which some first bytes were written behind the replies to all lines before it. No more was
-- taken than these lines have, and a reader holds behind them: so nothing was taken after that.
pub record BreaksOff (Output : List (List ℕ) → List ℕ → Type 0) (taken output : List ℕ) : Type 0 where
  pub count : ℕ
  pub replies : List ℕ
  pub answered : Output (take count (lines_of taken)) replies
  pub reply : List ℕ
  pub broken : Output (take (count + 1) (lines_of taken)) (replies ++ reply)
  pub written : (n : ℕ) × (output ≡ replies ++ take n reply)
  pub within : length taken ≤ take_limit
  pub ahead : length taken ≤ line_bytes (take (count + 1) (lines_of taken)) + (line_limit + 1)

-- The script is answered as `Output` says: all its lines where the source was read to its end, and else those whose end was taken; where
-- the sink failed, some first lines, the last of them perhaps in part. Where memory ran out nothing was taken or written.
abbrev pub AnswersBy : (List (List ℕ) → List ℕ → Type 0) → Option SessionStop → List ℕ → List ℕ → Type 0
AnswersBy Output None taken output = (length taken < take_limit) × Output (lines_of taken) output
AnswersBy Output (Some stop.Source) taken output = (length taken < take_limit) × Output (ended_lines_of taken) output
AnswersBy Output (Some stop.TakeLimit) taken output = (length taken ≡ take_limit) × Output (ended_lines_of taken) output
AnswersBy Output (Some stop.Sink) taken output = BreaksOff Output taken output
AnswersBy Output (Some stop.NoMemory) taken output = (taken ≡ []) × (output ≡ [])

-- the status of a session
abbrev pub session_status : Option SessionStop → ℕ
session_status None = 0
session_status (Some stop.Source) = 7
session_status (Some stop.Sink) = 8
session_status (Some stop.NoMemory) = 9
session_status (Some stop.TakeLimit) = 12

-- nothing was written, or all bytes written are flushed
abbrev pub IsFlushed : SinkState → SinkState → Type 0
IsFlushed before now = (now.written ≡ before.written) ⊎ sinks.IsFlushed now

-- What a run that ends with this status leaves of its source and its sink. Only a script is read to its end. A fault of either is the
-- last thing that the run met of it.
pub record Leaves (script : Bool) (status : ℕ) (source_before source_now : SourceState) (sink_before sink_now : SinkState) : Type 0 where
  pub whole : script ≡ true → status ≡ 0 → IfSome source_before.left (λ _. source_now.left ≡ Some [])
  pub flushed : status ≢ 8 → IsFlushed sink_before sink_now
  pub source_fault : status ≡ 7 → Rose source_before.faults source_now.faults
  pub source_quiet : status ≢ 7 → source_now.faults ≡ source_before.faults
  pub sink_fault : status ≡ 8 → Rose sink_before.faults sink_now.faults
  pub sink_quiet : status ≢ 8 → sink_now.faults ≡ sink_before.faults
  pub later : sink_before.faults ≤ sink_now.faults
  pub rises : sink_before.flushed ≤ sink_now.flushed

-- The lines of a source were answered by something that they may change, of which such replies are said to the text of a line: what was
-- taken and written; what that is behind all lines, where the source was read to its end; and what is left.
pub record EndsLines {State : Type 0} (Replies : State → List ℕ → List ℕ → State → Type 0) (first last : State) (why : Option SessionStop)
    (source_before source_now : SourceState) (sink_before sink_now : SinkState) : Type 0 where
  pub taken : List ℕ
  pub output : List ℕ
  pub takes : Takes source_before.left source_now.left taken
  pub appends : Appends sink_before.written sink_now.written output
  pub answered : AnswersBy (λ lines text. (now : State) × AreReplied (IsLineReply Replies) first lines text now) why taken output
  pub whole : why ≡ None → AreReplied (IsLineReply Replies) first (lines_of taken) output last
  pub leaves : Leaves true (session_status why) source_before source_now sink_before sink_now

-- A script was answered by the hierarchy of packed bytes: what was taken and written, by the sweeps over the hierarchy that is held at
-- each line, and where the first one is built, by the network alone; and what is left.
pub record EndsSession (h : HierarchyValue) (why : Option SessionStop) (source_before source_now : SourceState) (sink_before sink_now : SinkState) : Type 0 where
  pub taken : List ℕ
  pub output : List ℕ
  pub takes : Takes source_before.left source_now.left taken
  pub appends : Appends sink_before.written sink_now.written output
  pub held : AnswersBy (IsHeldOutput h) why taken output
  pub legal : IsBuilt h → AnswersBy (IsOutput h.network h.order) why taken output
  pub leaves : Leaves true (session_status why) source_before source_now sink_before sink_now

-- A script was answered over a network with measured profiles, under an order: what was taken and written, right over all walks and all
-- waits of the network at each line; and what is left.
pub record EndsWaiting (g : RawNetwork) (order : OrderValue) (why : Option SessionStop) (source_before source_now : SourceState) (sink_before sink_now : SinkState) : Type 0 where
  pub taken : List ℕ
  pub output : List ℕ
  pub takes : Takes source_before.left source_now.left taken
  pub appends : Appends sink_before.written sink_now.written output
  pub answered : AnswersBy (IsWaitingOutput g order) why taken output
  pub leaves : Leaves true (session_status why) source_before source_now sink_before sink_now

-- The lines of edits are answered, and made: all of them; or some first lines and no other, where memory ran out at the next; or, where
-- the sink failed, some first lines and no other, the last of them answered perhaps in part.
abbrev pub EditsBy : HierarchyValue → HierarchyValue → Option SessionStop → List (List ℕ) → List ℕ → Type 0
EditsBy before after None lines output = AreDone before lines output after
EditsBy before after (Some stop.NoMemory) lines output = (n : ℕ) × AreDone before (take n lines) output after
EditsBy before after (Some stop.Sink) lines output = (n : ℕ) × (text : List ℕ) × AreDone before (take n lines) text after × IsFrontOf output text
EditsBy before after _ lines output = ⊥

-- a text of edits was made: what was written, and what is left of the sink
pub record EndsEdits (before after : HierarchyValue) (text : List ℕ) (why : Option SessionStop) (sink_before sink_now : SinkState) : Type 0 where
  pub output : List ℕ
  pub appends : Appends sink_before.written sink_now.written output
  pub done : EditsBy before after why (lines_of text) output
  pub flushed : why ≢ Some stop.Sink → IsFlushed sink_before sink_now
  pub sink_fault : why ≡ Some stop.Sink → Rose sink_before.faults sink_now.faults
  pub quiet : why ≢ Some stop.Sink → sink_now.faults ≡ sink_before.faults
  pub later : sink_before.faults ≤ sink_now.faults
  pub rises : sink_before.flushed ≤ sink_now.flushed
