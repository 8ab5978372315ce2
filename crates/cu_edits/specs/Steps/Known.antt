-- The functions that settling an edge asks for: roads of the edited network, and shortcuts whose lists won't change any more.
use Rattle.std.specs.Prelude.{ℕ, List, Bool, true, false, Option, Some, None, ◌≡◌, ◌⊎◌, if◌then◌else◌, length, slice_get}
use Rattle.cu_model.specs.declared.roads.Edit.{Edit}
use Rattle.cu_model.specs.declared.roads.Edit.TheVariants.{Set, Assign}
use Rattle.cu_model.specs.Networks.{NetworkValue}
use Rattle.cu_model.specs.Profiles.{IsProfile}
use Rattle.cu_model.specs.Roads.{arc_value, is_closed_arc}
use Rattle.cu_arrival.specs.declared.runs.Run.{Run}
use Rattle.cu_arrival.specs.Runs.{arrival_value}
use Rattle.cu_chordal.specs.declared.graph.Ends.{Ends}
use Rattle.cu_chordal.specs.Graphs.{HasEdge}
use Rattle.cu_interval.specs.declared.ways.Dir.{Dir}
use Rattle.cu_interval.specs.declared.ways.Dir.TheVariants.{Up, Down}
use Rattle.cu_interval.specs.Hierarchies.{HierarchyValue}
use Rattle.cu_customize.specs.Functions.{FunctionsState}
use Rattle.cu_unpack.specs.Rebuilds.{IsRebuiltFunction}
use Rattle.cu_edits.specs.declared.edge_functions.EdgeFunctions.{EdgeFunctions}

-- the pieces that an edit sets are a profile
abbrev pub IsEditSound : Edit → Type 0
IsEditSound (Set profile pieces) = IsProfile pieces
IsEditSound (Assign arc profile) = Unit {0}

-- a network, and the functions that are known of each edge
pub record KnownValue : Type 0 where
  pub network : NetworkValue
  pub known : List (Option EdgeFunctions)

abbrev pub function_in : EdgeFunctions → Dir → Option (List Run)
function_in functions Up = functions.up
function_in functions Down = functions.down

abbrev pub is_known : Option (Option EdgeFunctions) → Bool
is_known (Some (Some functions)) = true
is_known (Some None) = false
is_known None = false

abbrev pub known_function : Option (Option EdgeFunctions) → Dir → Option (List Run)
known_function (Some (Some functions)) dir = function_in functions dir
known_function (Some None) dir = None
known_function None dir = None

-- when a function arrives at every second
abbrev pub values_of : Option (List Run) → Option (ℕ → ℕ)
values_of None = None
values_of (Some runs) = Some (arrival_value runs)

-- when a road arrives at every second; none where it is closed
abbrev pub road_in : NetworkValue → ℕ → Option (ℕ → ℕ)
road_in g a = if is_closed_arc g a then None else Some (arc_value g a)

-- what settling may ask
abbrev pub functions_of : KnownValue → FunctionsState
functions_of value = record {
  arcs = length value.network.arcs;
  road = road_in value.network;
  knows = λ edge dir. is_known (slice_get value.known edge);
  shortcut = λ edge dir. values_of (known_function (slice_get value.known edge) dir);
}

-- the functions of the edge with this number are known
abbrev pub HasFunctions : List (Option EdgeFunctions) → ℕ → Type 0
HasFunctions known edge = (functions : EdgeFunctions) × (slice_get known edge ≡ Some (Some functions))

-- both functions of an edge have the rebuilt values of a hierarchy
abbrev pub AreRebuilt : HierarchyValue → ℕ → EdgeFunctions → Type 0
AreRebuilt h edge functions = (dir : Dir) → IsRebuiltFunction h edge dir (function_in functions dir)

-- one of these edges, whose functions weren't known, and now are, in this hierarchy
pub record IsLearnt (h : HierarchyValue) (IsAsked : ℕ → Type 0) (old new : List (Option EdgeFunctions)) (edge : ℕ) : Type 0 where
  pub asked : IsAsked edge
  pub before : slice_get old edge ≡ Some None
  pub functions : EdgeFunctions
  pub there : slice_get new edge ≡ Some (Some functions)
  pub rebuilt : AreRebuilt h edge functions

-- the functions of some of these edges were learnt, and all others are as before
pub record Learns (h : HierarchyValue) (IsAsked : ℕ → Type 0) (old new : List (Option EdgeFunctions)) : Type 0 where
  pub long : length new ≡ length old
  pub each : (edge : ℕ) → (slice_get new edge ≡ slice_get old edge) ⊎ IsLearnt h IsAsked old new edge

-- an edge joins a rank, which is joined to both these ends, to one of them
abbrev pub IsSideOver : List Ends → Ends → ℕ → ℕ → Type 0
IsSideOver edges ends rank side = HasEdge edges rank ends.low × HasEdge edges rank ends.high
    × ((slice_get edges side ≡ Some (record { low = rank; high = ends.low })) ⊎ (slice_get edges side ≡ Some (record { low = rank; high = ends.high })))

abbrev pub IsSide : List Ends → Ends → ℕ → Type 0
IsSide edges ends side = (rank : ℕ) × IsSideOver edges ends rank side
