-- What was read of the source where work stopped.
use Rattle.std.proofs.Common.{◌≡◌, ◌∙◌, ◌∷◌, [], ℕ, List, refl, sym, subst, inl, inr, true}
use Rattle.std.specs.Prelude.{Option, Some, None, Result}
use Rattle.cu_io.specs.Shelves.{ShelfState}
use Rattle.cu_io.specs.Sinks.{SinkState}
use Rattle.cu_io.specs.Sources.{SourceState}
use Rattle.cu_roads.specs.declared.refusals.RoadRefusal.{RoadRefusal}
use Rattle.cu_roads.specs.NetworkTexts.{NetworkRead, network_of}
use Rattle.cu_session.specs.declared.stops.SessionStop.{SessionStop}
use Rattle.cu_session.specs.declared.stops.SessionStop.TheVariants as session
use Rattle.cu_session.specs.Sessions.{AnswersBy, Leaves, session_status}
use Rattle.cu_wait.specs.declared.points.Point.{Point}
use Rattle.cu_wait.specs.declared.refusals.MeasuredRefusal.{MeasuredRefusal}
use Rattle.cu_wait.specs.MeasuredTexts.{measured_of_text}
use Rattle.cu_cli.specs.declared.stops.Role.{Role}
use Rattle.cu_cli.specs.declared.stops.Role.TheVariants as role
use Rattle.cu_cli.specs.declared.stops.Stop.{Stop}
use Rattle.cu_cli.specs.declared.stops.Stop.TheVariants as stop
use Rattle.cu_cli.specs.Endings.{Ending, EndsPacking, ending_of}
use Rattle.cu_cli.specs.Opening.{StopsChecks, StopsOpening}
use Rattle.cu_cli.specs.Preparing.{StopsLoad, StopsLoading, StopsNetwork, StopsOrder, StopsPreparing}
use Rattle.cu_cli.specs.PreparingWaiting.{StopsRoads, StopsTexts, StopsWaiting, RawRead, raw_network_of, roads_read}
use Rattle.cu_cli.specs.Commands.Measure.{StopsMeasured}
use Rattle.cu_cli.specs.Runs.{IsReadToEnd, Reads, ReadsScript}
use Rattle.cu_cli.specs.Storing.{FileMade, FileStored, StopsStore, StopsStoring}
use Rattle.cu_cli.specs.Words.{FileAsked, OrderAsked, TablesAsked, Dissected, Identity, Named, hierarchy_file, table_files}

-- a stop before anything was read
abbrev pub IsUnread : Stop → Type 0
IsUnread (stop.TooLarge bytes) = ⊥
IsUnread (stop.Fault role.Out) = ⊥
IsUnread _ = Unit {0}

unread_fault : (whose : Role) (s : SourceState) (output : List ℕ) → IsUnread (stop.Fault whose)
    → Reads true s s (record { stop = Some (stop.Fault whose); taken = []; output = output; stored = [] })
unread_fault role.Nodes s output h = refl
unread_fault role.Roads s output h = refl
unread_fault role.Profiles s output h = refl
unread_fault role.Order s output h = refl
unread_fault role.Hierarchy s output h = refl
unread_fault role.Edits s output h = refl
unread_fault role.Out s output h = absurd h

-- nothing was read where nothing was taken or stored
pub unread : (why : Stop) (s : SourceState) (output : List ℕ) → IsUnread why → Reads true s s (record { stop = Some why; taken = []; output = output; stored = [] })
unread (stop.Fault whose) s output h = unread_fault whose s output h
unread stop.NoMemory s output h = inr (refl, refl)
unread stop.Sink s output h = inr refl
unread stop.Source s output h = tt
unread stop.TakeLimit s output h = tt
unread (stop.TooLarge bytes) s output h = absurd h
unread stop.Words s output h = refl
unread (stop.TooLong whose) s output h = refl
unread (stop.Network refusal) s output h = refl
unread (stop.Measured refusal) s output h = refl
unread (stop.Order refusal) s output h = refl
unread (stop.File refusal) s output h = refl
unread stop.TooManyEdges s output h = refl
unread (stop.Differs found) s output h = refl

-- a file that is loaded, and not stored
abbrev pub IsRead : Role → Type 0
IsRead role.Out = ⊥
IsRead _ = Unit {0}

abbrev pub AreRead : List FileAsked → Type 0
AreRead [] = Unit {0}
AreRead (file ∷ files) = IsRead file.role × AreRead files

-- the tables, and the order's file if there is one
pub tables_read : (tables : TablesAsked) (asked : OrderAsked) → AreRead (table_files tables asked)
tables_read tables Identity = (tt, (tt, (tt, tt)))
tables_read tables Dissected = (tt, (tt, (tt, tt)))
tables_read tables (Named name) = (tt, (tt, (tt, (tt, tt))))

fault_unread : (whose : Role) → IsRead whose → IsUnread (stop.Fault whose)
fault_unread role.Nodes h = tt
fault_unread role.Roads h = tt
fault_unread role.Profiles h = tt
fault_unread role.Order h = tt
fault_unread role.Hierarchy h = tt
fault_unread role.Edits h = tt
fault_unread role.Out h = absurd h

load_unread : (a b : ShelfState) (file : FileAsked) (why : Stop) → IsRead file.role → StopsLoad a b file why → IsUnread why
load_unread a b file (stop.Fault whose) h k = fault_unread whose (subst IsRead (sym k.0) h)
load_unread a b file (stop.TooLong whose) h k = tt
load_unread a b file stop.NoMemory h k = tt
load_unread a b file _ h k = absurd k

pub loads_unread : (a b : ShelfState) (files : List FileAsked) (why : Stop) → AreRead files → StopsLoading a b files why → IsUnread why
loads_unread a b [] why h k = absurd k
loads_unread a b (file ∷ files) why h (inl stops) = load_unread a b file why h.0 stops
loads_unread a b (file ∷ files) why h (inr (text, loaded, more)) = loads_unread a b files why h.1 more

network_unread : {Read : Type 0} (named : Result Read RoadRefusal) (why : Stop) → StopsNetwork named why → IsUnread why
network_unread named (stop.Network refusal) k = tt
network_unread named stop.NoMemory k = tt
network_unread named _ k = absurd k

order_unread : (asked : OrderAsked) (read : NetworkRead) (given : List (List ℕ)) (why : Stop) → StopsOrder asked read given why → IsUnread why
order_unread asked read given (stop.Order refusal) k = tt
order_unread asked read given stop.TooManyEdges k = tt
order_unread asked read given stop.NoMemory k = tt
order_unread asked read given _ k = absurd k

-- nothing was read where the preparing of tables was stopped
pub preparing_unread : (a b : ShelfState) (tables : TablesAsked) (asked : OrderAsked) (why : Stop) → StopsPreparing a b tables asked why → IsUnread why
preparing_unread a b tables asked why (inl (inl loading)) = loads_unread a b (table_files tables asked) why (tables_read tables asked) loading
preparing_unread a b tables asked why (inl (inr (n, r, p, g, there, stops))) = network_unread (network_of n r p) why stops
preparing_unread a b tables asked why (inr (read, given, reads, stops)) = order_unread asked read given why stops

checks_unread : (bytes : List ℕ) (why : Stop) → StopsChecks bytes why → IsUnread why
checks_unread bytes (stop.File refusal) k = tt
checks_unread bytes stop.NoMemory k = tt
checks_unread bytes _ k = absurd k

-- nor where the opening of a packed file was
pub opening_unread : (a b : ShelfState) (name : List ℕ) (why : Stop) → StopsOpening a b (hierarchy_file name ∷ []) why → IsUnread why
opening_unread a b name why (inl loading) = loads_unread a b (hierarchy_file name ∷ []) why (tt, tt) loading
opening_unread a b name why (inr (bytes, texts, there, checks)) = checks_unread bytes why checks

roads_unread : (asked : OrderAsked) (named : Result RawRead RoadRefusal) (given : List (List ℕ)) (why : Stop) → StopsRoads asked named given why → IsUnread why
roads_unread asked named given why (inl stops) = network_unread named why stops
roads_unread asked named given why (inr (read, is, stops)) = order_unread asked (roads_read read) given why stops

measured_unread : (named : Result (List (List Point)) MeasuredRefusal) (why : Stop) → StopsMeasured named why → IsUnread why
measured_unread named (stop.Measured refusal) k = tt
measured_unread named stop.NoMemory k = tt
measured_unread named _ k = absurd k

texts_unread : (asked : OrderAsked) (nodes roads text : List ℕ) (given : List (List ℕ)) (why : Stop) → StopsTexts asked nodes roads text given why → IsUnread why
texts_unread asked nodes roads text given why (inl stops) = measured_unread (measured_of_text text) why stops
texts_unread asked nodes roads text given why (inr (measured, is, stops)) = roads_unread asked (raw_network_of nodes roads measured) given why stops

-- nor where the preparing of measured tables was
pub waiting_unread : (a b : ShelfState) (tables : TablesAsked) (asked : OrderAsked) (why : Stop) → StopsWaiting a b tables asked why → IsUnread why
waiting_unread a b tables asked why (inl loading) = loads_unread a b (table_files tables asked) why (tables_read tables asked) loading
waiting_unread a b tables asked why (inr (nodes, roads, text, given, there, stops)) = texts_unread asked nodes roads text given why stops

-- a script was read as the answering of its lines ended
pub reads_script : (end : Option SessionStop) (Output : List (List ℕ) → List ℕ → Type 0) (s t : SourceState) (k now : SinkState) (taken output : List ℕ)
    → AnswersBy Output end taken output → Leaves true (session_status end) s t k now
    → Reads true s t (record { stop = ending_of end; taken = taken; output = output; stored = [] })
reads_script None Output s t k now taken output answers leaves = leaves.whole refl refl
reads_script (Some session.Source) Output s t k now taken output answers leaves = tt
reads_script (Some session.Sink) Output s t k now taken output answers leaves = inr refl
reads_script (Some session.NoMemory) Output s t k now taken output answers leaves = inr (answers.0, refl)
reads_script (Some session.TakeLimit) Output s t k now taken output answers leaves = tt

-- what may stop the storing of a packed file
abbrev pub IsStoring : Option Stop → Type 0
IsStoring None = Unit {0}
IsStoring (Some (stop.TooLarge bytes)) = Unit {0}
IsStoring (Some (stop.Fault role.Out)) = Unit {0}
IsStoring (Some stop.NoMemory) = Unit {0}
IsStoring (Some stop.Sink) = Unit {0}
IsStoring _ = ⊥

store_stops_so : (a b : ShelfState) (file : FileMade) (why : Stop) → file.role ≡ role.Out → StopsStore a b file why → IsStoring (Some why)
store_stops_so a b file (stop.Fault whose) out k = subst (λ (r : Role). IsStoring (Some (stop.Fault r))) (sym (k.0 ∙ out)) tt
store_stops_so a b file stop.NoMemory out k = tt
store_stops_so a b file _ out k = absurd k

-- the file is that of the word for what is stored
storing_stops_so : (a b : ShelfState) (file : FileMade) (why : Stop) (stored : List FileStored) → file.role ≡ role.Out → StopsStoring a b (file ∷ []) why stored → IsStoring (Some why)
storing_stops_so a b file why [] out k = absurd k
storing_stops_so a b file why (entry ∷ stored) out (same, inl (stops, none, nil)) = store_stops_so a b file why out stops
storing_stops_so a b file why (entry ∷ stored) out (same, inr (some, none)) = absurd none

-- nothing else stops it
pub packing_stops_so : (a b : ShelfState) (replies : List ℕ) (file : FileMade) (text : List ℕ) (work : Ending) → file.role ≡ role.Out → EndsPacking a b replies file text work
    → IsStoring work.stop
packing_stops_so a b replies file text work out (inl (few, (taken, inl (stored, inl (none, said))))) = subst IsStoring (sym none) tt
packing_stops_so a b replies file text work out (inl (few, (taken, inl (stored, inr (failed, said))))) = subst IsStoring (sym failed) tt
packing_stops_so a b replies file text work out (inl (few, (taken, inr (why, stops, is, replied)))) = subst IsStoring (sym is) (storing_stops_so a b file why work.stored out stops)
packing_stops_so a b replies file text work out (inr (large, (is, taken, replied, stored))) = subst IsStoring (sym is) tt

-- work behind a script that was read to its end: no stop asks for more
pub reads_behind : (s t : SourceState) (work : Ending) (why : Option Stop) → IsReadToEnd s t → IsStoring why → ReadsScript why s t work
reads_behind s t work None whole h = whole
reads_behind s t work (Some (stop.TooLarge bytes)) whole h = whole
reads_behind s t work (Some (stop.Fault role.Out)) whole h = whole
reads_behind s t work (Some stop.NoMemory) whole h = inl whole
reads_behind s t work (Some stop.Sink) whole h = inl whole
reads_behind s t work (Some _) whole h = absurd h
