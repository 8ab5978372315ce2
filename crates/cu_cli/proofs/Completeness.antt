-- Where nothing fails, a command that can be done is done, but for want of memory and what its meaning says.
use Rattle.std.proofs.Common.{◌≡◌, ◌<◌, ◌⊎◌, ◌∙◌, ◌∷◌, [], ℕ, List, length, refl, sym, ap, subst, arith, inl, inr, length-append}
use Rattle.std.specs.Prelude.{Option, Some, None, Result, Ok}
use Rattle.cu_io.specs.Counts.{Rose}
use Rattle.cu_io.specs.Shelves.{ShelfState}
use Rattle.cu_io.specs.Sinks.{SinkState}
use Rattle.cu_io.specs.Sources.{SourceState}
use Rattle.cu_io.specs.Transfers.{Takes}
use Rattle.cu_model.specs.Orders.{OrderValue}
use Rattle.cu_chordal.specs.Edges.{HasTooManyEdges}
use Rattle.cu_interval.specs.Hierarchies.{HierarchyValue}
use Rattle.cu_order.specs.declared.refusals.OrderRefusal.{OrderRefusal}
use Rattle.cu_roads.specs.NetworkTexts.{NetworkRead, network_of}
use Rattle.cu_roads.specs.declared.refusals.RoadRefusal.{RoadRefusal}
use Rattle.cu_session.specs.declared.stops.SessionStop.{SessionStop}
use Rattle.cu_session.specs.declared.stops.SessionStop.TheVariants as session
use Rattle.cu_session.specs.Sessions.{AnswersBy, take_limit}
use Rattle.cu_cli.specs.declared.stops.Stop.{Stop}
use Rattle.cu_cli.specs.declared.stops.Stop.TheVariants as stop
use Rattle.cu_cli.specs.Endings.{Answers, Ending, EndsPacking, EndsStoring, IsTooLarge, ending_of}
use Rattle.cu_cli.specs.Meanings.{Meaning, no_command}
use Rattle.cu_cli.specs.Opening.{IsFileOf, IsOpenable, StopsChecks, StopsOpening}
use Rattle.cu_cli.specs.Preparing.{AreLoaded, IsLoaded, IsOrderOf, IsOrderRefused, IsServable, ReadsTables, StopsLoad, StopsLoading}
use Rattle.cu_cli.specs.Preparing.{StopsNetwork, StopsOrder, StopsPreparing, StopsTables}
use Rattle.cu_cli.specs.Runs.{IsShort, MayStop, MeetsNoFault}
use Rattle.cu_cli.specs.Stops.{status_at, status_of}
use Rattle.cu_cli.specs.Storing.{FileMade, FileStored, StopsStore, StopsStoring}
use Rattle.cu_cli.specs.Steps.Asks.{Means}
use Rattle.cu_cli.specs.Steps.Outcomes.{Completes, Did, Refuses, SaysStop, Works, World, world_of}
use Rattle.cu_cli.specs.Words.{FileAsked, OrderAsked, TablesAsked, table_files}
use Rattle.cu_cli.proofs.FileLaws.{not_no_file}
use Rattle.cu_cli.proofs.LoadLaws.{only_nothing}
use Rattle.cu_cli.proofs.WorkLaws.{stopped_before}

-- work that met no fault, and took fewer bytes than a run takes
pub record Fine (a b : ShelfState) (work : Ending) : Type 0 where
  pub loads : (name : List ℕ) → Rose (a.load_faults name) (b.load_faults name) → ⊥
  pub stores : (name : List ℕ) → Rose (a.store_faults name) (b.store_faults name) → ⊥
  pub source : work.stop ≡ Some stop.Source → ⊥
  pub sink : work.stop ≡ Some stop.Sink → ⊥
  pub few : length work.taken < take_limit

-- what stops such work of a command that can be done is want of memory, or what the meaning says
abbrev pub IsComplete : Meaning → Type 0
IsComplete meaning =
    (a b : ShelfState) (work : Ending) (why : Stop) → meaning.can a → Fine a b work → work.stop ≡ Some why → meaning.ends a b work
    → (why ≡ stop.NoMemory) ⊎ meaning.stops why

-- fewer bytes were taken than a run takes
few_taken : (source : SourceState) (now : Option (List ℕ)) (taken : List ℕ) → IsShort source → Takes source.left now taken → length taken < take_limit
few_taken source now taken (input, told, few) took =
    let (rest, is, parts) = rw told at took in
    let size = ap (λ (t : List ℕ). length t) parts in
    omega (arith, size, length-append taken rest, few)

-- a command did its work
pub works : (meaning : Meaning) {why : Option Stop} {before now : World} → IsComplete meaning → Did meaning.script why meaning.ends before now → Works meaning why before now
works meaning {why = why} {before = before} {now = now} law done = record { did = done; complete = complete why done }
  where
    complete : (e : Option Stop) → Did meaning.script e meaning.ends before now → Completes meaning e before now
    complete None did = tt
    complete (Some other) did = λ can short fine.
        let seven : did.work.stop ≡ Some stop.Source → status_of other ≡ 7 = λ is. ap status_at (sym did.stop ∙ is) in
        let eight : did.work.stop ≡ Some stop.Sink → status_of other ≡ 8 = λ is. ap status_at (sym did.stop ∙ is) in
        law before.shelf now.shelf did.work other can
        (record {
          loads = fine.loads;
          stores = fine.stores;
          source = λ is. fine.source (did.leaves.source_fault (seven is));
          sink = λ is. fine.sink (did.leaves.sink_fault (eight is));
          few = few_taken before.source now.source.left did.work.taken short did.moves.0;
        }) did.stop did.ended

-- words mean what was asked, and that was done
pub meant : (words asked : Meaning) {why : Option Stop} {before now : World} → Means words asked → Works asked why before now → Works words why before now
meant words asked {why = why} {before = before} {now = now} means done = record {
  did = record {
    work = done.did.work;
    stop = done.did.stop;
    ended = means.ends before.shelf now.shelf done.did.work done.did.ended;
    reads = rw means.script done.did.reads;
    moves = done.did.moves;
    stores = done.did.stores;
    leaves = rw means.script done.did.leaves;
    faults = done.did.faults;
  };
  complete = complete why done.complete;
}
  where
    either : (other : Stop) → (other ≡ stop.NoMemory) ⊎ asked.stops other → (other ≡ stop.NoMemory) ⊎ words.stops other
    either other (inl none) = inl none
    either other (inr stops) = inr (means.stops other stops)

    complete : (e : Option Stop) → Completes asked e before now → Completes words e before now
    complete None c = tt
    complete (Some other) c = λ can short fine. either other (c (means.can before.shelf can) short fine)

-- words are no command's
pub no_words : (a : ShelfState) (s : SourceState) (k : SinkState) → Works no_command (Some stop.Words) (world_of a s k) (world_of a s k)
no_words a s k =
    let nothing = only_nothing a in
    works no_command (λ a b work why can fine is ends. absurd can)
    (stopped_before a a s k no_command.ends stop.Words (record { held = nothing.held; most = nothing.most; stores = nothing.stores; faults = nothing.faults }) tt
    (λ work ends. ends))

-- where nothing fails, the status of a run whose work was stopped is 9 or that of what the meaning says
pub completes : (meaning : Meaning) (a b : ShelfState) (s t : SourceState) (k mid now : SinkState) (why : Stop) (status : ℕ)
    → Works meaning (Some why) (world_of a s k) (world_of b t mid) → Refuses why mid now status → meaning.can a → IsShort s → MeetsNoFault a b s t k now
    → (status ≡ 0) ⊎ (status ≡ 9) ⊎ MayStop meaning status
completes meaning a b s t k mid now why status done refuses can short fine = said refuses.said
  where
    unfailing : MeetsNoFault a b s t k mid
    unfailing = record {
      loads = fine.loads;
      stores = fine.stores;
      source = fine.source;
      sink = λ rose. fine.sink (omega (arith, rose, refuses.later));
    }

    by : status ≡ status_of why → (why ≡ stop.NoMemory) ⊎ meaning.stops why → (status ≡ 0) ⊎ (status ≡ 9) ⊎ MayStop meaning status
    by is (inl none) = inr (inl (is ∙ ap status_of none))
    by is (inr stops) = inr (inr (why, stops, is))

    said : SaysStop why mid now status → (status ≡ 0) ⊎ (status ≡ 9) ⊎ MayStop meaning status
    said (inl (is, app, flushed)) = by is (done.complete can short unfailing)
    said (inr (eight, some, more, rose)) = absurd (fine.sink (omega (arith, done.did.leaves.later, rose)))

-- a file of a shelf that tells has one text
one_text : (a : ShelfState) (files : List ℕ → Option (List ℕ)) (file : FileAsked) (text other : List ℕ) → a.held ≡ Some files → IsLoaded a file text → IsLoaded a file other → other ≡ text
one_text a files file text other told h k =
    let there = rw told at h.0 in
    let too = rw told at k.0 in
    cc (there, too)

pub same_texts : (a : ShelfState) (files : List ℕ → Option (List ℕ)) (asked : List FileAsked) (texts others : List (List ℕ)) → a.held ≡ Some files
    → AreLoaded a asked texts → AreLoaded a asked others → others ≡ texts
same_texts a files [] [] [] told h k = refl
same_texts a files [] [] (x ∷ xs) told h k = absurd k
same_texts a files [] (x ∷ xs) others told h k = absurd h
same_texts a files (file ∷ asked) [] others told h k = absurd h
same_texts a files (file ∷ asked) (x ∷ xs) [] told h k = absurd k
same_texts a files (file ∷ asked) (x ∷ xs) (y ∷ ys) told h k =
    let first = one_text a files file x y told h.0 k.0 in
    let rest = same_texts a files asked xs ys told h.1 k.1 in
    cc (first, rest)

-- the load of a file that is there and within the limit is stopped for want of memory alone
load_stops : (a b : ShelfState) (files : List ℕ → Option (List ℕ)) (file : FileAsked) (text : List ℕ) (why : Stop) → a.held ≡ Some files → IsLoaded a file text
    → ((name : List ℕ) → Rose (a.load_faults name) (b.load_faults name) → ⊥) → StopsLoad a b file why → why ≡ stop.NoMemory
load_stops a b files file text (stop.Fault whose) told h fine k = absurd (fine file.name k.1)
load_stops a b files file text (stop.TooLong whose) told h fine k =
    let there = rw told at h.0 in
    let (bytes, is, long) = rw told at k.1 in
    let same : bytes ≡ text = cc (there, is) in
    let size = ap (λ (t : List ℕ). length t) same in
    absurd (omega (arith, size, long, h.1))
load_stops a b files file text stop.NoMemory told h fine k = refl
load_stops a b files file text _ told h fine k = absurd k

pub loads_stop : (a b : ShelfState) (files : List ℕ → Option (List ℕ)) (asked : List FileAsked) (texts : List (List ℕ)) (why : Stop) → a.held ≡ Some files → AreLoaded a asked texts
    → ((name : List ℕ) → Rose (a.load_faults name) (b.load_faults name) → ⊥) → StopsLoading a b asked why → why ≡ stop.NoMemory
loads_stop a b files [] texts why told h fine k = absurd k
loads_stop a b files (file ∷ asked) [] why told h fine k = absurd h
loads_stop a b files (file ∷ asked) (text ∷ texts) why told h fine (inl stops) = load_stops a b files file text why told h.0 fine stops
loads_stop a b files (file ∷ asked) (text ∷ texts) why told h fine (inr (other, loaded, more)) = loads_stop a b files asked texts why told h.1 fine more

-- the reading of texts that pass their checks is stopped for want of memory alone
pub order_stops : (asked : OrderAsked) (read : NetworkRead) (given : List (List ℕ)) (why : Stop) → ((other : OrderRefusal) → IsOrderRefused asked read given other → ⊥)
    → ((order : OrderValue) → IsOrderOf asked read given order → HasTooManyEdges read.network order → ⊥) → StopsOrder asked read given why → why ≡ stop.NoMemory
order_stops asked read given (stop.Order refusal) ordered few k = absurd (ordered refusal k)
order_stops asked read given stop.TooManyEdges ordered few (order, is, many) = absurd (few order is many)
order_stops asked read given stop.NoMemory ordered few k = refl
order_stops asked read given _ ordered few k = absurd k

pub network_stops : {Read : Type 0} (named : Result Read RoadRefusal) (read : Read) (why : Stop) → named ≡ Ok read → StopsNetwork named why → why ≡ stop.NoMemory
network_stops named read (stop.Network refusal) is k = absurd (cc (is, k))
network_stops named read stop.NoMemory is k = refl
network_stops named read _ is k = absurd k

-- what is said of three tables and the texts behind them
abbrev pub OnTables : (List ℕ → List ℕ → List ℕ → List (List ℕ) → Type 0) → List (List ℕ) → Type 0
OnTables P (nodes ∷ roads ∷ profiles ∷ given) = P nodes roads profiles given
OnTables P _ = ⊥

pub tables_stop : (a b : ShelfState) (asked : List FileAsked) (files : List ℕ → Option (List ℕ)) (read : NetworkRead) (given : List (List ℕ)) (why : Stop) → a.held ≡ Some files
    → ReadsTables a asked read given → ((name : List ℕ) → Rose (a.load_faults name) (b.load_faults name) → ⊥) → StopsTables a b asked why → why ≡ stop.NoMemory
tables_stop a b asked files read given why told (nodes, roads, profiles, loaded, named) fine (inl loading) =
    loads_stop a b files asked (nodes ∷ roads ∷ profiles ∷ given) why told loaded fine loading
tables_stop a b asked files read given why told (nodes, roads, profiles, loaded, named) fine (inr (n, r, p, g, there, stops)) =
    let same = same_texts a files asked (nodes ∷ roads ∷ profiles ∷ given) (n ∷ r ∷ p ∷ g) told loaded there in
    let here = subst (λ (t : List (List ℕ)). OnTables (λ n r p g. StopsNetwork (network_of n r p) why) t) same stops in
    network_stops (network_of nodes roads profiles) read why named here

-- nothing but want of memory stops the preparing of tables that can be served
pub preparing_stops : (a b : ShelfState) (tables : TablesAsked) (asked : OrderAsked) (why : Stop) → IsServable tables asked a
    → ((name : List ℕ) → Rose (a.load_faults name) (b.load_faults name) → ⊥) → StopsPreparing a b tables asked why → why ≡ stop.NoMemory
preparing_stops a b tables asked why (files, read, given, told, reads, ordered, few) fine (inl stops) =
    tables_stop a b (table_files tables asked) files read given why told reads fine stops
preparing_stops a b tables asked why (files, read, given, told, (nodes, roads, profiles, loaded, named), ordered, few) fine (inr (other, g, (n, r, p, there, is), stops)) =
    let same = same_texts a files (table_files tables asked) (nodes ∷ roads ∷ profiles ∷ given) (n ∷ r ∷ p ∷ g) told loaded there in
    let (here, order) = subst (λ (t : List (List ℕ)). OnTables (λ n r p g. (network_of n r p ≡ Ok other) × StopsOrder asked other g why) t) same (is, stops) in
    let reads : other ≡ read = cc (here, named) in
    order_stops asked read given why ordered few (subst (λ (n : NetworkRead). StopsOrder asked n given why) reads order)

-- no check refuses the packed file of a hierarchy, in either version
checks_stop : (bytes : List ℕ) (h : HierarchyValue) (why : Stop) → IsFileOf bytes h → StopsChecks bytes why → why ≡ stop.NoMemory
checks_stop bytes h (stop.File refusal) file (refused, some) = absurd (not_no_file bytes h refusal file refused some)
checks_stop bytes h stop.NoMemory file k = refl
checks_stop bytes h _ file k = absurd k

-- nothing but want of memory stops the opening of files the first of which is the packed file of a hierarchy
pub opening_stops : (a b : ShelfState) (asked : List FileAsked) (why : Stop) → IsOpenable asked a → ((name : List ℕ) → Rose (a.load_faults name) (b.load_faults name) → ⊥)
    → StopsOpening a b asked why → why ≡ stop.NoMemory
opening_stops a b asked why (files, h, texts, told, (bytes, loaded, spells)) fine (inl loading) = loads_stop a b files asked (bytes ∷ texts) why told loaded fine loading
opening_stops a b asked why (files, h, texts, told, (bytes, loaded, spells)) fine (inr (other, others, there, checks)) =
    let same = same_texts a files asked (bytes ∷ texts) (other ∷ others) told loaded there in
    let first : other ≡ bytes = cc same in
    checks_stop bytes h why spells (subst (λ (t : List ℕ). StopsChecks t why) first checks)

-- stores that meet no fault are stopped for want of memory alone
store_stops : (a b : ShelfState) (file : FileMade) (why : Stop) → ((name : List ℕ) → Rose (a.store_faults name) (b.store_faults name) → ⊥) → StopsStore a b file why → why ≡ stop.NoMemory
store_stops a b file (stop.Fault whose) fine k = absurd (fine file.name k.1)
store_stops a b file stop.NoMemory fine k = refl
store_stops a b file _ fine k = absurd k

stores_stop : (a b : ShelfState) (files : List FileMade) (why : Stop) (stored : List FileStored) → ((name : List ℕ) → Rose (a.store_faults name) (b.store_faults name) → ⊥)
    → StopsStoring a b files why stored → why ≡ stop.NoMemory
stores_stop a b [] why stored fine k = absurd k
stores_stop a b (file ∷ files) why [] fine k = absurd k
stores_stop a b (file ∷ files) why (entry ∷ stored) fine (same, inl stops) = store_stops a b file why fine stops.0
stores_stop a b (file ∷ files) why (entry ∷ stored) fine (same, inr more) = stores_stop a b files why stored fine more.1

pub storing_stops : (a b : ShelfState) (replies : List ℕ) (files : List FileMade) (text : List ℕ) (why : Stop) (work : Ending) → Fine a b work → work.stop ≡ Some why
    → EndsStoring a b replies files text work → why ≡ stop.NoMemory
storing_stops a b replies files text why work fine is (nil, inl (stored, inl (none, said))) = absurd (cc (none, is))
storing_stops a b replies files text why work fine is (nil, inl (stored, inr (failed, front))) = absurd (fine.sink failed)
storing_stops a b replies files text why work fine is (nil, inr (other, stops, other_is, quiet)) =
    let same : other ≡ why = cc (other_is, is) in
    sym same ∙ stores_stop a b files other work.stored fine.stores stops

-- a packed file, stored or too large
pub packing_stops : (a b : ShelfState) (replies : List ℕ) (file : FileMade) (text : List ℕ) (why : Stop) (work : Ending) → Fine a b work → work.stop ≡ Some why
    → EndsPacking a b replies file text work → (why ≡ stop.NoMemory) ⊎ IsTooLarge why
packing_stops a b replies file text why work fine is (inl (few, storing)) = inl (storing_stops a b replies (file ∷ []) text why work fine is storing)
packing_stops a b replies file text why work fine is (inr (large, behind)) =
    let same : stop.TooLarge (length file.bytes) ≡ why = cc (behind.0, is) in
    inr (length file.bytes, sym same)

-- of the answers only those of a fault, of the limit or of want of memory aren't done
pub answers_stop : {a b : ShelfState} (Output : List (List ℕ) → List ℕ → Type 0) (work : Ending) (why : Stop) → Fine a b work → work.stop ≡ Some why → Answers Output work → why ≡ stop.NoMemory
answers_stop Output work why fine is (end, ends, answers, stored) = by end ends answers
  where
    by : (e : Option SessionStop) → work.stop ≡ ending_of e → AnswersBy Output e work.taken work.output → why ≡ stop.NoMemory
    by None same k = absurd (cc (same, is))
    by (Some session.Source) same k = absurd (fine.source same)
    by (Some session.Sink) same k = absurd (fine.sink same)
    by (Some session.NoMemory) same k = cc (same, is)
    by (Some session.TakeLimit) same k = absurd (omega (arith, fine.few, k.0))
