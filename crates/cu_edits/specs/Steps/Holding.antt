-- What a settler holds, and what it keeps true as it settles one edge after the other.
use Rattle.std.specs.Prelude.{ℕ, List, Option, Some, None, ◌≡◌, ◌*◌, length, slice_get}
use Rattle.cu_model.specs.declared.roads.Edit.{Edit}
use Rattle.cu_chordal.specs.declared.graph.Ends.{Ends}
use Rattle.cu_chordal.specs.Graphs.{ChordalValue}
use Rattle.cu_interval.specs.declared.ways.Dir.{Dir}
use Rattle.cu_interval.specs.declared.ways.TouchedEdge.{TouchedEdge}
use Rattle.cu_interval.specs.EdgeArcs.{AreEdgeArcs}
use Rattle.cu_interval.specs.Hierarchies.{HierarchyValue, IsHierarchyOf, end_of, list_number, start_of}
use Rattle.cu_customize.specs.Functions.{FunctionsState}
use Rattle.cu_customize.specs.Settling.{IsSettledList, IsValueOf}
use Rattle.cu_unpack.specs.Rebuilds.{Keeps, RebuiltValue}
use Rattle.cu_edits.specs.declared.edge_functions.EdgeFunctions.{EdgeFunctions}
use Rattle.cu_edits.specs.Settling.{HasFinalSides, IsFinal, IsSettled, SettlingValue, list_in, settled_so_far}
use Rattle.cu_edits.specs.Steps.Known.{AreRebuilt, function_in}
use Rattle.cu_edits.specs.Steps.Settled.{AreSettled}
use Rattle.cu_resettled.specs.ResettlingAll.{IsTouchedEdgeBySome}
use Rattle.cu_edits.specs.Lists.{AreInRange, AreSound}

-- these edges of a hierarchy were settled
abbrev pub settling_of : HierarchyValue → List Edit → List TouchedEdge → SettlingValue
settling_of h edit settled = record { before = h; edit = edit; settled = settled }

-- an edge may be settled next: it is touched and wasn't settled, and the edges of its lower triangles won't change any more
pub record IsNext (s : SettlingValue) (edge : ℕ) : Type 0 where
  pub touched : IsTouchedEdgeBySome s.before s.edit edge
  pub fresh : IsSettled s edge → ⊥
  pub sides : HasFinalSides s edge

-- what a settler holds: the graph and the roads of the hierarchy; functions that are kept, of the hierarchy before; and functions that are
-- known, of the edges settled and of edges that aren't touched
pub record IsSettling (s : SettlingValue) (graph : ChordalValue) (arcs : List (List ℕ)) (rebuilt : RebuiltValue) (known : List (Option EdgeFunctions)) : Type 0 where
  pub are : AreSettled s
  pub hierarchy : IsHierarchyOf graph s.before
  pub roads : AreEdgeArcs s.before.network s.before.order s.before.edges arcs
  pub range : AreInRange s.before.network s.edit
  pub pieces : AreSound s.edit
  pub size : length rebuilt.kept ≡ 2 * length s.before.edges
  pub keeps : Keeps s.before rebuilt
  pub count : length known ≡ length s.before.edges
  pub functions : (edge : ℕ) (functions : EdgeFunctions) → slice_get known edge ≡ Some (Some functions) → IsFinal s edge × AreRebuilt (settled_so_far s) edge functions
  pub settled : (edge : ℕ) → IsSettled s edge → slice_get known edge ≡ Some None → ⊥

-- both lists of an edge, settled by these functions, and the functions that they have
pub record IsSettledEdge (edges : List Ends) (arcs : List (List ℕ)) (f : FunctionsState) (edge : ℕ) (lists : TouchedEdge) (functions : EdgeFunctions) : Type 0 where
  pub number : lists.edge ≡ edge
  pub ways : (dir : Dir) (ends : Ends) (roads : List ℕ) → slice_get edges edge ≡ Some ends → slice_get arcs (list_number edge dir) ≡ Some roads
      → IsSettledList edges roads f (start_of ends dir) (end_of ends dir) (list_in lists dir)
  pub values : (dir : Dir) (ends : Ends) → slice_get edges edge ≡ Some ends
      → IsValueOf edges f (start_of ends dir) (end_of ends dir) (list_in lists dir) (function_in functions dir)
