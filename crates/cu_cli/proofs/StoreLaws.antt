-- Stores one after another, and what is said of them.
use Rattle.std.proofs.Common.{◌≡◌, ◌∙◌, ◌∷◌, ◌++◌, [], ℕ, List, take, refl, ap, subst, arith, inl, inr, false}
use Rattle.std.specs.Prelude.{Option, Some, None, Result, Ok, Err, IfErr, OnOk, is_some}
use Rattle.cu_io.specs.Holdings.{Holds, KeepsOthers}
use Rattle.cu_io.specs.Shelves.{ShelfState}
use Rattle.cu_io.specs.Sinks.{SinkState, WroteLine}
use Rattle.cu_io.specs.Sources.{SourceState}
use Rattle.cu_io.proofs.Appending.{appends_more}
use Rattle.cu_io.proofs.Taking.{takes_nothing}
use Rattle.cu_cli.specs.declared.stops.Stop.{Stop}
use Rattle.cu_cli.specs.declared.stops.Stop.TheVariants as stop
use Rattle.cu_cli.specs.Endings.{Ending, EndsStoring, SaysDone}
use Rattle.cu_cli.specs.Runs.{CountsFaults}
use Rattle.cu_cli.specs.Stops.{line_of}
use Rattle.cu_cli.specs.Storing.{FileMade, FileStored, StopsStore, StopsStoring, Stores, all_stored}
use Rattle.cu_cli.specs.Steps.Loading.{OnlyLoads}
use Rattle.cu_cli.specs.Steps.Outcomes.{Did, IsBeforeScript, stop_of, world_of}
use Rattle.cu_cli.specs.Steps.Storing.{StoresInTurn}
use Rattle.cu_cli.proofs.LoadLaws.{counts_behind}
use Rattle.cu_cli.proofs.WorkLaws.{Behind, behind_nothing, ends_so, leaves_behind}

-- one file was stored
pub stored_one : {a b : ShelfState} (file : FileMade) → is_some b.held ≡ is_some a.held → Holds b.held file.name file.bytes → KeepsOthers a.held b.held file.name
    → b.load_faults ≡ a.load_faults → b.store_faults ≡ a.store_faults → StoresInTurn {T = Unit {0}} a b (file ∷ []) (Ok tt)
stored_one {b = b} file tells holds others loads counts = record {
  stored = record { name = file.name; bytes = Some file.bytes } ∷ [];
  stores = (b.held, tells, holds, others, refl);
  whole = refl;
  stopped = tt;
  early = tt;
  loads = loads;
  faults = (loads, counts);
}

-- one file was refused
pub refused_one : {a b : ShelfState} (file : FileMade) (why : Stop) → is_some b.held ≡ is_some a.held → KeepsOthers a.held b.held file.name
    → b.load_faults ≡ a.load_faults → CountsFaults (Some why) a b → StopsStore a b file why → IsBeforeScript why → StoresInTurn {T = Unit {0}} a b (file ∷ []) (Err why)
refused_one {b = b} file why tells others loads faults stops early = record {
  stored = record { name = file.name; bytes = None } ∷ [];
  stores = (b.held, tells, tt, others, refl);
  whole = tt;
  stopped = (refl, inl (stops, refl, refl));
  early = early;
  loads = loads;
  faults = faults;
}

store_stops_behind : (a b c : ShelfState) (file : FileMade) (why : Stop) → b.store_faults ≡ a.store_faults → StopsStore b c file why → StopsStore a c file why
store_stops_behind a b c file (stop.Fault whose) same (is, rose) =
    let still : b.store_faults file.name ≡ a.store_faults file.name = ap (λ (counts : List ℕ → ℕ). counts file.name) same in
    (is, omega (arith, still, rose))
store_stops_behind a b c file stop.NoMemory same k = tt
store_stops_behind a b c file _ same k = absurd k

-- a store that stops the run where no count of stores rose before
stops_behind : (a b c : ShelfState) (files : List FileMade) (why : Stop) (stored : List FileStored) → b.store_faults ≡ a.store_faults
    → StopsStoring b c files why stored → StopsStoring a c files why stored
stops_behind a b c [] why stored still k = absurd k
stops_behind a b c (file ∷ files) why [] still k = absurd k
stops_behind a b c (file ∷ files) why (entry ∷ stored) still (same, inl (stops, none, nil)) = (same, inl (store_stops_behind a b c file why still stops, none, nil))
stops_behind a b c (file ∷ files) why (entry ∷ stored) still (same, inr (some, more)) = (same, inr (some, stops_behind a b c files why stored still more))

-- stores behind loads
pub stored_behind : {T : Type 0} {a b c : ShelfState} {files : List FileMade} {r : Result T Stop} → OnlyLoads None a b → StoresInTurn b c files r → StoresInTurn a c files r
stored_behind {T = T} {a = a} {b = b} {c = c} {files = files} {r = r} h k = record {
  stored = k.stored;
  stores = subst (λ (held : Option (List ℕ → Option (List ℕ))). Stores held k.stored c.held) h.held k.stores;
  whole = k.whole;
  stopped = stopped r k.stopped;
  early = k.early;
  loads = k.loads ∙ h.faults.0;
  faults = counts_behind a b c (stop_of r) h.faults.0 h.faults.1 k.faults;
}
  where
    stopped : (e : Result T Stop) → IfErr e (λ why. StopsStoring b c files why k.stored) → IfErr e (λ why. StopsStoring a c files why k.stored)
    stopped (Ok x) g = tt
    stopped (Err why) g = stops_behind a b c files why k.stored h.stores g

-- one store, and more behind it
pub stored_then : {T : Type 0} {a b c : ShelfState} {file : FileMade} {files : List FileMade} {r : Result T Stop} → StoresInTurn {T = Unit {0}} a b (file ∷ []) (Ok tt)
    → StoresInTurn b c files r → StoresInTurn a c (file ∷ files) r
stored_then {T = T} {a = a} {b = b} {c = c} {file = file} {files = files} {r = r} h k = record {
  stored = entry ∷ k.stored;
  stores = (first.0, first.1, first.2, first.3, subst (λ (held : Option (List ℕ → Option (List ℕ))). Stores held k.stored c.held) first.4 k.stores);
  whole = whole r k.whole;
  stopped = stopped r k.stopped;
  early = k.early;
  loads = k.loads ∙ h.loads;
  faults = counts_behind a b c (stop_of r) h.faults.0 h.faults.1 k.faults;
}
  where
    entry : FileStored
    entry = record { name = file.name; bytes = Some file.bytes }

    first : Stores a.held (entry ∷ []) b.held
    first = subst (λ (stored : List FileStored). Stores a.held stored b.held) h.whole h.stores

    whole : (e : Result T Stop) → OnOk e (k.stored ≡ all_stored files) → OnOk e (entry ∷ k.stored ≡ all_stored (file ∷ files))
    whole (Ok x) g = ap (λ (stored : List FileStored). entry ∷ stored) g
    whole (Err why) g = tt

    stopped : (e : Result T Stop) → IfErr e (λ why. StopsStoring b c files why k.stored) → IfErr e (λ why. StopsStoring a c (file ∷ files) why (entry ∷ k.stored))
    stopped (Ok x) g = tt
    stopped (Err why) g = (refl, inr (refl, stops_behind a b c files why k.stored h.faults.1 g))

-- one store that was refused, and no more
pub stops_there : {T : Type 0} {a b : ShelfState} {file : FileMade} (files : List FileMade) {why : Stop} → StoresInTurn {T = Unit {0}} a b (file ∷ []) (Err why)
    → StoresInTurn {T = T} a b (file ∷ files) (Err why)
stops_there {a = a} {b = b} {file = file} files {why = why} h = record {
  stored = h.stored;
  stores = h.stores;
  whole = tt;
  stopped = stopped h.stored h.stopped;
  early = h.early;
  loads = h.loads;
  faults = h.faults;
}
  where
    stopped : (stored : List FileStored) → StopsStoring a b (file ∷ []) why stored → StopsStoring a b (file ∷ files) why stored
    stopped [] g = absurd g
    stopped (entry ∷ stored) (same, inl stops) = (same, inl stops)
    stopped (entry ∷ stored) (same, inr (some, none)) = absurd none

-- how the storing of these files, and what is said of it behind these replies, ends
abbrev pub Storing : List ℕ → List FileMade → List ℕ → ShelfState → ShelfState → Ending → Type 0
Storing replies files text a b work = EndsStoring a b replies files text work

-- a store was refused behind these replies
pub storing_refused : {T : Type 0} {a b : ShelfState} {k mid : SinkState} {replies : List ℕ} {files : List FileMade} {why : Stop} (s : SourceState)
    → Behind k mid replies → (text : List ℕ) → StoresInTurn {T = T} a b files (Err why)
    → Did false (Some why) (Storing replies files text) (world_of a s k) (world_of b s mid)
storing_refused {replies = replies} {why = why} s behind text h = record {
  work = record { stop = Some why; taken = []; output = replies; stored = h.stored };
  stop = refl;
  ended = (refl, inr (why, h.stopped, refl, refl));
  reads = refl;
  moves = (takes_nothing s.left, behind.appends);
  stores = h.stores;
  leaves = leaves_behind false why s behind h.early;
  faults = h.faults;
}

-- all was stored and said
pub storing_said : {T S E : Type 0} {a b : ShelfState} {x : T} {y : S} {k mid now : SinkState} {replies : List ℕ} {files : List FileMade} {text : List ℕ}
    (s : SourceState) → Behind k mid replies → StoresInTurn {T = T} a b files (Ok x)
    → WroteLine {T = S} {E = E} mid now (Ok y) text → Did false None (Storing replies files text) (world_of a s k) (world_of b s now)
storing_said {k = k} {mid = mid} {now = now} {replies = replies} {text = text} s behind h line = record {
  work = record { stop = None; taken = []; output = replies ++ line_of text; stored = h.stored };
  stop = refl;
  ended = (refl, inl (h.whole, inl (refl, refl)));
  reads = refl;
  moves = (takes_nothing s.left, appends_more k.written mid.written now.written replies (line_of text) behind.appends line.wrote.ok);
  stores = h.stores;
  leaves = record {
    whole = λ script. absurd (cc script);
    flushed = λ _. inr line.flushed;
    source_fault = λ e. absurd (cc e);
    source_quiet = λ _. refl;
    sink_fault = λ e. absurd (cc e);
    sink_quiet = λ _. line.wrote.quiet ∙ behind.quiet;
    later = omega (arith, behind.later, line.wrote.later);
    rises = omega (arith, behind.rises, line.wrote.flushed);
  };
  faults = h.faults;
}

-- all was stored, and the sink failed
pub storing_unsaid : {T S E : Type 0} {a b : ShelfState} {x : T} {e : E} {k mid now : SinkState} {replies : List ℕ} {files : List FileMade} {text : List ℕ}
    (s : SourceState) → Behind k mid replies → StoresInTurn {T = T} a b files (Ok x)
    → WroteLine {T = S} {E = E} mid now (Err e) text → Did false (Some stop.Sink) (Storing replies files text) (world_of a s k) (world_of b s now)
storing_unsaid {k = k} {mid = mid} {now = now} {replies = replies} {text = text} s behind h line =
    let (count, within, some) = line.wrote.err in
    record {
      work = record { stop = Some stop.Sink; taken = []; output = replies ++ take count (line_of text); stored = h.stored };
      stop = refl;
      ended = (refl, inl (h.whole, inr (refl, (count, refl))));
      reads = refl;
      moves = (takes_nothing s.left, appends_more k.written mid.written now.written replies (take count (line_of text)) behind.appends some);
      stores = h.stores;
      leaves = record {
        whole = λ script. absurd (cc script);
        flushed = λ other. absurd (other refl);
        source_fault = λ seven. absurd (cc seven);
        source_quiet = λ _. refl;
        sink_fault = λ _. omega (arith, behind.later, line.wrote.cause);
        sink_quiet = λ other. absurd (other refl);
        later = omega (arith, behind.later, line.wrote.later);
        rises = omega (arith, behind.rises, line.wrote.flushed);
      };
      faults = h.faults;
    }

-- nothing was stored
nothing_stored : {T : Type 0} {a b : ShelfState} → OnlyLoads None a b → (x : T) → StoresInTurn a b [] (Ok x)
nothing_stored loads x = record { stored = []; stores = loads.held; whole = refl; stopped = tt; early = tt; loads = loads.faults.0; faults = loads.faults }

-- a line was said, and nothing stored before
line_said : (a b : ShelfState) (text : List ℕ) (work : Ending) → EndsStoring a b [] [] text work → SaysDone [] text work × (work.taken ≡ []) × (work.stored ≡ [])
line_said a b text work (taken, inl (stored, said)) = (said, taken, stored)
line_said a b text work (taken, inr (why, stops, rest, more)) = absurd stops

pub said_alone : {S E : Type 0} {y : S} {Ends : ShelfState → ShelfState → Ending → Type 0} {a b : ShelfState} (s : SourceState) {k now : SinkState} {text : List ℕ}
    → OnlyLoads None a b → WroteLine {T = S} {E = E} k now (Ok y) text
    → ((work : Ending) → SaysDone [] text work × (work.taken ≡ []) × (work.stored ≡ []) → Ends a b work) → Did false None Ends (world_of a s k) (world_of b s now)
said_alone {a = a} {b = b} s {text = text} loads line ends =
    ends_so (λ work done. ends work (line_said a b text work done)) (storing_said s (behind_nothing _) (nothing_stored {T = Unit {0}} loads tt) line)

-- the sink failed in the line
pub unsaid_alone : {S E : Type 0} {e : E} {Ends : ShelfState → ShelfState → Ending → Type 0} {a b : ShelfState} (s : SourceState) {k now : SinkState} {text : List ℕ}
    → OnlyLoads None a b → WroteLine {T = S} {E = E} k now (Err e) text
    → ((work : Ending) → SaysDone [] text work × (work.taken ≡ []) × (work.stored ≡ []) → Ends a b work) → Did false (Some stop.Sink) Ends (world_of a s k) (world_of b s now)
unsaid_alone {a = a} {b = b} s {text = text} loads line ends =
    ends_so (λ work done. ends work (line_said a b text work done)) (storing_unsaid s (behind_nothing _) (nothing_stored {T = Unit {0}} loads tt) line)
