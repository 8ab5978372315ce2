-- A script that is being answered.
use Rattle.std.specs.Prelude.{ℕ, List, [], ◌+◌, ◌<◌, IfSome, ◌-◌, ◌≡◌, ◌≤◌, Bool, true, false, Some, None, Result, Ok, Err, length}
use Rattle.cu_io.specs.LineReading.{ReaderState}
use Rattle.cu_io.specs.Steps.Cuts.{IsCut}
use Rattle.cu_io.specs.Sinks.{SinkState}
use Rattle.cu_io.specs.Sources.{SourceState}
use Rattle.cu_io.specs.Transfers.{Appends, Takes}
use Rattle.cu_session.specs.declared.stops.SessionStop.{SessionStop}
use Rattle.cu_session.specs.Scripts.{AreReplied, IsLineReply, line_limit}
use Rattle.cu_session.specs.Sessions.{EndsLines, IsFlushed, line_bytes, take_limit}

-- The bytes taken so far are the lines that were answered, by which the first state became the one now, and what the reader holds.
pub record Session {State : Type 0} (Replies : State → List ℕ → List ℕ → State → Type 0) (first held : State) (source_before : SourceState) (sink_before : SinkState)
    (reader : ReaderState) (source : SourceState) (sink : SinkState) : Type 0 where
  pub taken : List ℕ
  pub lines : List (List ℕ)
  pub output : List ℕ
  pub cut : IsCut taken lines reader.held reader.shown
  pub unspent : reader.shown ≡ true → reader.taken < take_limit
  pub whole : reader.shown ≡ true → IfSome source.left (λ bytes. bytes ≡ [])
  pub takes : Takes source_before.left source.left taken
  pub count : reader.taken ≡ length taken
  pub parted : length taken ≤ line_bytes lines + length reader.held
  pub within : reader.taken ≤ take_limit
  pub line_limit : reader.line_limit ≡ line_limit
  pub take_limit : reader.take_limit ≡ take_limit
  pub replies : AreReplied (IsLineReply Replies) first lines output held
  pub appends : Appends sink_before.written sink.written output
  pub flushed : IsFlushed sink_before sink
  pub source_quiet : source.faults ≡ source_before.faults
  pub sink_quiet : sink.faults ≡ sink_before.faults
  pub rises : sink_before.flushed ≤ sink.flushed

-- what one turn makes of a script: it goes on from this state, or the answering ended
abbrev pub Turned : {State : Type 0} → (State → List ℕ → List ℕ → State → Type 0) → State → State → Result Bool SessionStop
    → SourceState → SinkState → ReaderState → SourceState → SinkState → Type 0
Turned Replies first held (Ok true) source_before sink_before reader source sink =
    Session Replies first held source_before sink_before reader source sink × (reader.over ≡ false)
Turned Replies first held (Ok false) source_before sink_before reader source sink = EndsLines Replies first held None source_before source sink_before sink
Turned Replies first held (Err why) source_before sink_before reader source sink = EndsLines Replies first held (Some why) source_before source sink_before sink

-- one turn, from this state to that one
abbrev pub TakesTurn : {State : Type 0} → (State → List ℕ → List ℕ → State → Type 0) → State → State → Result Bool SessionStop
    → ReaderState → ReaderState → SourceState → SourceState → SinkState → SinkState → Type 0
TakesTurn {State} Replies held next result reader after source left sink now =
    (first : State) (source_before : SourceState) (sink_before : SinkState) → Session Replies first held source_before sink_before reader source sink
    → Turned Replies first next result source_before sink_before after left now

-- how many bytes are left to be handed out, at most
abbrev pub left_to_read : ReaderState → ℕ
left_to_read reader = (reader.take_limit - reader.taken) + length reader.held
