-- The roads of each edge: those that join its ends in a direction, whether or not they may be driven.
use Rattle.std.specs.Prelude.{ℕ, List, Some, ◌≡◌, ◌*◌, ◌↔◌, length, slice_get}
use Rattle.std.specs.List.{Contains}
use Rattle.std.specs.List.Sorted.{IsStrictlyIncreasing}
use Rattle.cu_model.specs.Networks.{NetworkValue}
use Rattle.cu_model.specs.Orders.{OrderValue}
use Rattle.cu_chordal.specs.Edges.{LinksRanks}
use Rattle.cu_chordal.specs.declared.graph.Ends.{Ends}
use Rattle.cu_interval.specs.declared.ways.Dir.{Dir}
use Rattle.cu_interval.specs.Hierarchies.{end_of, list_number, start_of}

-- these are the roads from one rank to another, by rising number
pub record AreArcsFrom (g : NetworkValue) (o : OrderValue) (u v : ℕ) (arcs : List ℕ) : Type 0 where
  pub rising : IsStrictlyIncreasing arcs
  pub exact : (a : ℕ) → Contains arcs a ↔ LinksRanks g o a u v

-- a list of roads for each edge and direction, by list number
pub record AreEdgeArcs (g : NetworkValue) (o : OrderValue) (edges : List Ends) (lists : List (List ℕ)) : Type 0 where
  pub long : length lists ≡ 2 * length edges
  pub each : (edge : ℕ) (dir : Dir) (ends : Ends) (arcs : List ℕ) → slice_get edges edge ≡ Some ends
      → slice_get lists (list_number edge dir) ≡ Some arcs → AreArcsFrom g o (start_of ends dir) (end_of ends dir) arcs
