-- The functions that settling asks for: when each road and each shortcut arrives.
use Rattle.std.specs.Prelude.{ℕ, List, Bool, true, false, Option, Some, None, ◌≡◌, ◌<◌, nat_lt, length, slice_get}
use Rattle.cu_model.specs.Networks.{NetworkValue}
use Rattle.cu_model.specs.Orders.{OrderValue}
use Rattle.cu_model.specs.Roads.{arc_value, is_closed_arc}
use Rattle.cu_arrival.specs.declared.runs.Run.{Run}
use Rattle.cu_arrival.specs.Runs.{arrival_value, IsArrivalFunction}
use Rattle.cu_chordal.specs.declared.graph.Ends.{Ends}
use Rattle.cu_interval.specs.declared.ways.Dir.{Dir}
use Rattle.cu_interval.specs.Hierarchies.{end_of, list_number, start_of}
use Rattle.cu_interval.specs.Low.{HasLowWalk, IsLeastLowDrive}
use Rattle.cu_runs.specs.Layers.{value_kept}

-- how many roads there are; when each arrives at every second, none where it is closed; which shortcuts, by edge and direction, are known;
-- and when each of these arrives at every second, none where it has no function
pub record FunctionsState : Type 0 where
  pub arcs : ℕ
  pub road : ℕ → Option (ℕ → ℕ)
  pub knows : ℕ → Dir → Bool
  pub shortcut : ℕ → Dir → Option (ℕ → ℕ)

-- the answer is this function, or none where there is none
abbrev pub IsFunction : Option (List Run) → Option (ℕ → ℕ) → Type 0
IsFunction None None = Unit {0}
IsFunction (Some runs) (Some f) = IsArrivalFunction runs × ((t : ℕ) → arrival_value runs t ≡ f t)
IsFunction None (Some f) = ⊥
IsFunction (Some runs) None = ⊥

-- the function of a road of a network: its value at every second, none where it is closed
abbrev pub IsRoadFunction : NetworkValue → ℕ → Option (ℕ → ℕ) → Type 0
IsRoadFunction g a None = is_closed_arc g a ≡ true
IsRoadFunction g a (Some f) = (is_closed_arc g a ≡ false) × ((t : ℕ) → f t ≡ arc_value g a t)

-- the function of the low walks from u to v: the least arrival over them at every second, none where there is no low walk
abbrev pub IsLowFunction : NetworkValue → OrderValue → ℕ → ℕ → Option (ℕ → ℕ) → Type 0
IsLowFunction g o u v None = HasLowWalk g o u v → ⊥
IsLowFunction g o u v (Some f) = (t : ℕ) → IsLeastLowDrive g o u v t (f t)

-- the functions are those of a network and order: of its roads, and of the low walks of each shortcut that is known
pub record AreFunctionsOf (g : NetworkValue) (o : OrderValue) (edges : List Ends) (f : FunctionsState) : Type 0 where
  pub arcs : f.arcs ≡ length g.arcs
  pub roads : (a : ℕ) → a < length g.arcs → IsRoadFunction g a (f.road a)
  pub shortcuts : (edge : ℕ) (dir : Dir) (ends : Ends) → slice_get edges edge ≡ Some ends → f.knows edge dir ≡ true
      → IsLowFunction g o (start_of ends dir) (end_of ends dir) (f.shortcut edge dir)

-- this road's function, or none
abbrev pub road_if : Bool → NetworkValue → ℕ → Option (ℕ → ℕ)
road_if true g a = None
road_if false g a = Some (arc_value g a)

-- a road's function, none where it is closed
abbrev pub road_function : NetworkValue → ℕ → Option (ℕ → ℕ)
road_function g a = road_if (is_closed_arc g a) g a

-- the functions of the roads of a network, and those of shortcuts that stand in a list, by list number
abbrev pub kept_state : NetworkValue → List (Option (List Run)) → FunctionsState
kept_state g functions = record {
  arcs = length g.arcs;
  road = road_function g;
  knows = λ edge dir. nat_lt (list_number edge dir) (length functions);
  shortcut = λ edge dir. value_kept (slice_get functions (list_number edge dir));
}
