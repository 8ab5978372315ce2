-- The work of commands, and what is said of it.
use Rattle.std.proofs.Common.{◌≡◌, ◌≢◌, ◌≤◌, ◌∙◌, ◌++◌, [], ℕ, List, take, refl, sym, ap, subst, arith, inl, inr, false, true}
use Rattle.std.specs.Prelude.{Bool, Option, Some, None}
use Rattle.std.proofs.lemmas.List.{append-nil}
use Rattle.cu_io.specs.Shelves.{ShelfState}
use Rattle.cu_io.specs.Sinks.{SinkState}
use Rattle.cu_io.specs.Sources.{SourceState}
use Rattle.cu_io.specs.Transfers.{Appends, Takes}
use Rattle.cu_io.proofs.Appending.{appends_nothing, appends_more}
use Rattle.cu_io.proofs.Taking.{takes_nothing}
use Rattle.cu_interval.specs.Hierarchies.{HierarchyValue, IsBuilt}
use Rattle.cu_session.specs.declared.stops.SessionStop.{SessionStop}
use Rattle.cu_session.specs.declared.stops.SessionStop.TheVariants as session
use Rattle.cu_session.specs.Held.{IsHeldOutput}
use Rattle.cu_session.specs.Sessions.{AnswersBy, EndsSession, EndsWaiting, IsFlushed, Leaves, session_status}
use Rattle.cu_session.specs.Waiting.{IsWaitingOutput}
use Rattle.cu_wait.specs.Networks.{RawNetwork}
use Rattle.cu_model.specs.Orders.{OrderValue}
use Rattle.cu_cli.specs.declared.preparing.Prepared.{Prepared}
use Rattle.cu_cli.specs.declared.stops.Stop.{Stop}
use Rattle.cu_cli.specs.declared.stops.Stop.TheVariants as stop
use Rattle.cu_cli.specs.Commands.{meaning_of}
use Rattle.cu_cli.specs.Endings.{Ending, StopsBefore, StopsBehind, ending_of}
use Rattle.cu_cli.specs.Runs.{CountsFaults, EndsRun, Moves, Reads}
use Rattle.cu_cli.specs.Storing.{Stores}
use Rattle.cu_cli.specs.Stops.{said_at, said_of, status_at, status_of}
use Rattle.cu_cli.specs.Steps.Loading.{HasBuilt, HasPrepared, OnlyLoads}
use Rattle.cu_cli.specs.Steps.Outcomes.{Did, IsBeforeScript, Refuses, SaysStop, Works, world_of}
use Rattle.cu_cli.specs.Words.{OrderAsked, TablesAsked}
use Rattle.cu_cli.proofs.ReadLaws.{IsUnread, reads_script, unread}

-- a stop before the script has none of the statuses of a script
early : (why : Stop) → IsBeforeScript why → (status_of why ≢ 0) × (status_of why ≢ 7) × (status_of why ≢ 8)
early stop.Words h = ((λ e. cc e), (λ e. cc e), (λ e. cc e))
early (stop.Fault whose) h = ((λ e. cc e), (λ e. cc e), (λ e. cc e))
early (stop.TooLong whose) h = ((λ e. cc e), (λ e. cc e), (λ e. cc e))
early (stop.Network refusal) h = ((λ e. cc e), (λ e. cc e), (λ e. cc e))
early (stop.Measured refusal) h = ((λ e. cc e), (λ e. cc e), (λ e. cc e))
early (stop.Order refusal) h = ((λ e. cc e), (λ e. cc e), (λ e. cc e))
early (stop.File refusal) h = ((λ e. cc e), (λ e. cc e), (λ e. cc e))
early stop.NoMemory h = ((λ e. cc e), (λ e. cc e), (λ e. cc e))
early stop.TooManyEdges h = ((λ e. cc e), (λ e. cc e), (λ e. cc e))
early (stop.TooLarge bytes) h = ((λ e. cc e), (λ e. cc e), (λ e. cc e))
early (stop.Differs found) h = ((λ e. cc e), (λ e. cc e), (λ e. cc e))
early _ h = absurd h

-- replies were written, and flushed where there are any
pub record Behind (k mid : SinkState) (replies : List ℕ) : Type 0 where
  pub appends : Appends k.written mid.written replies
  pub flushed : IsFlushed k mid
  pub quiet : mid.faults ≡ k.faults
  pub later : k.faults ≤ mid.faults
  pub rises : k.flushed ≤ mid.flushed

pub behind_nothing : (k : SinkState) → Behind k k []
behind_nothing k = record { appends = appends_nothing k.written; flushed = inl refl; quiet = refl; later = omega arith; rises = omega arith }

pub leaves_behind : (script : Bool) (why : Stop) (s : SourceState) {k mid : SinkState} {replies : List ℕ} → Behind k mid replies → IsBeforeScript why → Leaves script (status_of why) s s k mid
leaves_behind script why s behind h =
    let (some, read, wrote) = early why h in
    record {
      whole = λ _ zero. absurd (some zero);
      flushed = λ _. behind.flushed;
      source_fault = λ seven. absurd (read seven);
      source_quiet = λ _. refl;
      sink_fault = λ eight. absurd (wrote eight);
      sink_quiet = λ _. behind.quiet;
      later = behind.later;
      rises = behind.rises;
    }

-- the work stopped with nothing read, taken or stored, behind these replies
stopped_unread : (script : Bool) (a b : ShelfState) (s : SourceState) {k mid : SinkState} (replies : List ℕ) (Ends : ShelfState → ShelfState → Ending → Type 0) (why : Stop)
    → Behind k mid replies → OnlyLoads (Some why) a b → IsBeforeScript why → Reads script s s (record { stop = Some why; taken = []; output = replies; stored = [] })
    → ((work : Ending) → StopsBehind replies why work → Ends a b work) → Did script (Some why) Ends (world_of a s k) (world_of b s mid)
stopped_unread script a b s replies Ends why behind loads before reads ends = record {
  work = record { stop = Some why; taken = []; output = replies; stored = [] };
  stop = refl;
  ended = ends (record { stop = Some why; taken = []; output = replies; stored = [] }) (refl, refl, refl, refl);
  reads = reads;
  moves = (takes_nothing s.left, behind.appends);
  stores = loads.held;
  leaves = leaves_behind script why s behind before;
  faults = loads.faults;
}

-- of a command that answers no script
pub stopped_behind : (a b : ShelfState) (s : SourceState) {k mid : SinkState} (replies : List ℕ) (Ends : ShelfState → ShelfState → Ending → Type 0) (why : Stop)
    → Behind k mid replies → OnlyLoads (Some why) a b → IsBeforeScript why
    → ((work : Ending) → StopsBehind replies why work → Ends a b work) → Did false (Some why) Ends (world_of a s k) (world_of b s mid)
stopped_behind a b s replies Ends why behind loads before ends = stopped_unread false a b s replies Ends why behind loads before refl ends

-- the work stopped before anything was taken, written or stored
pub stopped_before : (a b : ShelfState) (s : SourceState) (k : SinkState) (Ends : ShelfState → ShelfState → Ending → Type 0) (why : Stop) → OnlyLoads (Some why) a b
    → IsBeforeScript why → ((work : Ending) → StopsBefore why work → Ends a b work) → Did false (Some why) Ends (world_of a s k) (world_of b s k)
stopped_before a b s k Ends why loads before ends = stopped_behind a b s [] Ends why (behind_nothing k) loads before ends

-- of a command that answers a script
pub script_unread : (a b : ShelfState) (s : SourceState) (k : SinkState) (Ends : ShelfState → ShelfState → Ending → Type 0) (why : Stop) → OnlyLoads (Some why) a b
    → IsBeforeScript why → IsUnread why → ((work : Ending) → StopsBefore why work → Ends a b work) → Did true (Some why) Ends (world_of a s k) (world_of b s k)
script_unread a b s k Ends why loads before none ends = stopped_unread true a b s [] Ends why (behind_nothing k) loads before (unread why s [] none) ends

-- work that ended in one way ended in another
pub ends_so : {script : Bool} {why : Option Stop} {P Q : ShelfState → ShelfState → Ending → Type 0} {a b : ShelfState} {s t : SourceState} {k now : SinkState}
    → ((work : Ending) → P a b work → Q a b work) → Did script why P (world_of a s k) (world_of b t now) → Did script why Q (world_of a s k) (world_of b t now)
ends_so ends done = record {
  work = done.work;
  stop = done.stop;
  ended = ends done.work done.ended;
  reads = done.reads;
  moves = done.moves;
  stores = done.stores;
  leaves = done.leaves;
  faults = done.faults;
}

-- the hierarchy of prepared tables was built
pub has_built : {a : ShelfState} (tables : TablesAsked) (asked : OrderAsked) {h : HierarchyValue} (prepared : Prepared) → HasPrepared a tables asked prepared → IsBuilt h
    → h.network ≡ prepared.network → h.order ≡ prepared.order → HasBuilt a tables asked h
has_built tables asked prepared (places, prepares) built network order = record { built = built; places = places; prepares = rw (network, order) prepares }

-- the status of a script is that of the run
pub status_same : (end : Option SessionStop) → session_status end ≡ status_at (ending_of end)
status_same None = refl
status_same (Some session.Source) = refl
status_same (Some session.Sink) = refl
status_same (Some session.NoMemory) = refl
status_same (Some session.TakeLimit) = refl

-- no file's fault ends a script
pub counts_script : (a b : ShelfState) (end : Option SessionStop) → CountsFaults None a b → CountsFaults (ending_of end) a b
counts_script a b None k = k
counts_script a b (Some session.Source) k = k
counts_script a b (Some session.Sink) k = k
counts_script a b (Some session.NoMemory) k = k
counts_script a b (Some session.TakeLimit) k = k

-- a script was answered
pub replied : (a b : ShelfState) (s t : SourceState) (k now : SinkState) (end : Option SessionStop) (Output : List (List ℕ) → List ℕ → Type 0)
    (Ends : ShelfState → ShelfState → Ending → Type 0) (taken output : List ℕ) → OnlyLoads None a b → Takes s.left t.left taken → Appends k.written now.written output
    → AnswersBy Output end taken output → Leaves true (session_status end) s t k now
    → Ends a b (record { stop = ending_of end; taken = taken; output = output; stored = [] }) → Did true (ending_of end) Ends (world_of a s k) (world_of b t now)
replied a b s t k now end Output Ends taken output loads takes appends answers leaves ends = record {
  work = record { stop = ending_of end; taken = taken; output = output; stored = [] };
  stop = refl;
  ended = ends;
  reads = reads_script end Output s t k now taken output answers leaves;
  moves = (takes, appends);
  stores = loads.held;
  leaves = subst (λ (status : ℕ). Leaves true status s t k now) (status_same end) leaves;
  faults = counts_script a b end loads.faults;
}

-- by a hierarchy
pub answered : (a b : ShelfState) (s t : SourceState) (k now : SinkState) (end : Option SessionStop) (h : HierarchyValue) (Ends : ShelfState → ShelfState → Ending → Type 0)
    → OnlyLoads None a b → (done : EndsSession h end s t k now)
    → Ends a b (record { stop = ending_of end; taken = done.taken; output = done.output; stored = [] }) → Did true (ending_of end) Ends (world_of a s k) (world_of b t now)
answered a b s t k now end h Ends loads done ends =
    replied a b s t k now end (IsHeldOutput h) Ends done.taken done.output loads done.takes done.appends done.held done.leaves ends

-- over a network with measured profiles
pub waited : (a b : ShelfState) (s t : SourceState) (k now : SinkState) (end : Option SessionStop) (g : RawNetwork) (order : OrderValue)
    (Ends : ShelfState → ShelfState → Ending → Type 0) → OnlyLoads None a b → (done : EndsWaiting g order end s t k now)
    → Ends a b (record { stop = ending_of end; taken = done.taken; output = done.output; stored = [] }) → Did true (ending_of end) Ends (world_of a s k) (world_of b t now)
waited a b s t k now end g order Ends loads done ends =
    replied a b s t k now end (IsWaitingOutput g order) Ends done.taken done.output loads done.takes done.appends done.answered done.leaves ends

-- all was done
pub finished : (a b : ShelfState) (s t : SourceState) (k now : SinkState) (words : List (List ℕ)) → Works (meaning_of words) None (world_of a s k) (world_of b t now)
    → (ending : Ending) × (0 ≡ status_at ending.stop) × EndsRun a b s t words ending × Moves s t k now ending × Stores a.held ending.stored b.held
finished a b s t k now words works =
    let done = works.did in
    let nothing : said_at done.work.stop ≡ [] = ap said_at done.stop in
    let faults = subst (λ (e : Option Stop). CountsFaults e a b) (sym done.stop) done.faults in
    let output : done.work.output ≡ done.work.output ++ said_at done.work.stop = rw nothing (sym (append-nil done.work.output)) in
    (done.work, sym (ap status_at done.stop), (done.work, refl, refl, done.ended, done.reads, faults, inl (refl, output)), done.moves, done.stores)

-- what stopped the work was said
pub closed : (a b : ShelfState) (s t : SourceState) (k mid now : SinkState) (words : List (List ℕ)) (why : Stop) (status : ℕ)
    → Works (meaning_of words) (Some why) (world_of a s k) (world_of b t mid) → Refuses why mid now status
    → (ending : Ending) × (status ≡ status_at ending.stop) × EndsRun a b s t words ending × Moves s t k now ending × Stores a.held ending.stored b.held
closed a b s t k mid now words why status works refuses = said refuses.said
  where
    done : Did (meaning_of words).script (Some why) (meaning_of words).ends (world_of a s k) (world_of b t mid)
    done = works.did

    text : said_of why ≡ said_at done.work.stop
    text = sym (ap said_at done.stop)

    faults : CountsFaults done.work.stop a b
    faults = subst (λ (e : Option Stop). CountsFaults e a b) (sym done.stop) done.faults

    said : SaysStop why mid now status → (ending : Ending) × (status ≡ status_at ending.stop) × EndsRun a b s t words ending × Moves s t k now ending × Stores a.held ending.stored b.held
    said (inl (is, app, flushed)) =
        let written : Appends k.written now.written (done.work.output ++ said_at done.work.stop) =
        appends_more k.written mid.written now.written done.work.output (said_at done.work.stop) done.moves.1 (subst (λ (t : List ℕ). Appends mid.written now.written t) text app) in (
          record { stop = done.work.stop; taken = done.work.taken; output = done.work.output ++ said_at done.work.stop; stored = done.work.stored },
          is ∙ sym (ap status_at done.stop),
          (done.work, refl, refl, done.ended, done.reads, faults, inl (refl, refl)),
          (done.moves.0, written),
          done.stores,
        )
    said (inr (eight, some, (count, within, app), rose)) =
        let written : Appends k.written now.written (done.work.output ++ take count (said_at done.work.stop)) =
        appends_more k.written mid.written now.written done.work.output (take count (said_at done.work.stop)) done.moves.1
        (subst (λ (t : List ℕ). Appends mid.written now.written (take count t)) text app) in (
          record { stop = Some stop.Sink; taken = done.work.taken; output = done.work.output ++ take count (said_at done.work.stop); stored = done.work.stored },
          eight,
          (done.work, refl, refl, done.ended, done.reads, faults, inr (refl, (λ nil. some (text ∙ nil)), (count, refl))),
          (done.moves.0, written),
          done.stores,
        )
