-- What settling a shortcut gives, for whatever functions it is handed.
use Rattle.std.specs.Prelude.{ℕ, List, [], true, Option, Some, None, IsSome, ◌≡◌, ◌≢◌, ◌<◌, ◌-◌, ◌^◌, min, nat_lt, if◌then◌else◌}
use Rattle.std.specs.List.{Contains}
use Rattle.cu_model.specs.Days.{day, IsOnward}
use Rattle.cu_arrival.specs.declared.runs.Run.{Run}
use Rattle.cu_arrival.specs.Runs.{arrival_value, IsArrivalFunction}
use Rattle.cu_chordal.specs.Graphs.{HasEdge}
use Rattle.cu_chordal.specs.declared.graph.Ends.{Ends}
use Rattle.cu_interval.specs.declared.ways.Dir.{Dir}
use Rattle.cu_interval.specs.declared.ways.Dir.TheVariants.{Up, Down}
use Rattle.cu_interval.specs.declared.ways.Entry.{Entry}
use Rattle.cu_interval.specs.declared.ways.Way.{Way}
use Rattle.cu_interval.specs.declared.ways.Way.TheVariants.{Road, Via}
use Rattle.cu_interval.specs.Hierarchies.{number_from}
use Rattle.cu_interval.specs.WayLists.{IsRunsOf, way_in}
use Rattle.cu_runs.specs.declared.packed_runs.TheConstants.{MAX_NUMBER}
use Rattle.cu_customize.specs.Functions.{FunctionsState}
use Rattle.cu_runs.specs.PackedRuns.{IsPackedFunction}
use Rattle.cu_runs.specs.Travels.{TakeLonger}

abbrev pub shortcut_of : FunctionsState → Option ℕ → Dir → Option (ℕ → ℕ)
shortcut_of f None dir = None
shortcut_of f (Some edge) dir = f.shortcut edge dir

-- the function of the shortcut from rank u to rank v; none where no edge joins them
abbrev pub function_from : List Ends → FunctionsState → ℕ → ℕ → Option (ℕ → ℕ)
function_from edges f u v = if nat_lt u v then shortcut_of f (number_from 0 edges u v) Up else shortcut_of f (number_from 0 edges v u) Down

abbrev pub value_at : Option (ℕ → ℕ) → ℕ → Option ℕ
value_at None t = None
value_at (Some f) t = Some (f t)

-- a second half asked where the first arrives, up to 2^62
abbrev pub through : Option (ℕ → ℕ) → Option (ℕ → ℕ) → ℕ → Option ℕ
through (Some first) (Some second) t = Some (min (second (first t)) (2 ^ 62))
through _ _ t = None

-- the candidates from u to v: each of these roads that isn't closed, and each lower middle of which both halves have a function
abbrev pub IsCandidateBy : List Ends → List ℕ → FunctionsState → ℕ → ℕ → Way → Type 0
IsCandidateBy edges arcs f u v (Road a) = Contains arcs a × IsSome (f.road a)
IsCandidateBy edges arcs f u v (Via m) = (m < u) × (m < v) × IsSome (function_from edges f u m) × IsSome (function_from edges f m v)

-- a road arrives by its function; a middle by the second half's, at the arrival of the first
abbrev pub ArrivesBy : List Ends → FunctionsState → ℕ → ℕ → ℕ → Way → ℕ → Type 0
ArrivesBy edges f u v t (Road a) arrival = value_at (f.road a) t ≡ Some arrival
ArrivesBy edges f u v t (Via m) arrival = through (function_from edges f u m) (function_from edges f m v) t ≡ Some arrival

-- the settled list from u to v: the maximal runs, over the seconds of a day, of the first candidate that arrives earliest
abbrev pub IsSettledList : List Ends → List ℕ → FunctionsState → ℕ → ℕ → List Entry → Type 0
IsSettledList edges arcs f u v entries = IsRunsOf (IsCandidateBy edges arcs f u v) (ArrivesBy edges f u v) entries

-- the value of the ways of a list at each second of the day; none where the list is empty
abbrev pub IsValueOf : List Ends → FunctionsState → ℕ → ℕ → List Entry → Option (List Run) → Type 0
IsValueOf edges f u v entries None = entries ≡ []
IsValueOf edges f u v entries (Some runs) = (entries ≢ []) × IsArrivalFunction runs
    × ((t : ℕ) (way : Way) → t < day → way_in entries t ≡ Some way → ArrivesBy edges f u v t way (arrival_value runs t))

-- the value of the ways of a list at each second of a day, by packed runs; none where the list is empty
abbrev pub IsDayValueOf : List Ends → FunctionsState → ℕ → ℕ → List Entry → Option (List Run) → Type 0
IsDayValueOf edges f u v entries None = entries ≡ []
IsDayValueOf edges f u v entries (Some packed) = (entries ≢ []) × IsPackedFunction packed × IsOnward (arrival_value packed)
    × ((t : ℕ) (way : Way) → t < day → way_in entries t ≡ Some way → ArrivesBy edges f u v t way (arrival_value packed t))

-- the halves of some way by a lower middle take so long that, with a day more, packed runs can't say it
abbrev pub HasFarWay : List Ends → FunctionsState → ℕ → ℕ → Type 0
HasFarWay edges f u v = (m : ℕ) × (m < u) × (m < v) × TakeLonger (MAX_NUMBER - day) (function_from edges f u m) (function_from edges f m v)

-- both halves of each lower triangle of an edge are known, in the directions that a list from u to v needs
abbrev pub KnowsHalves : List Ends → FunctionsState → ℕ → ℕ → Type 0
KnowsHalves edges f u v = (m : ℕ) → m < u → m < v → HasEdge edges m u → HasEdge edges m v
    → ((e : ℕ) → number_from 0 edges m u ≡ Some e → f.knows e Down ≡ true)
    × ((e : ℕ) → number_from 0 edges m v ≡ Some e → f.knows e Up ≡ true)
