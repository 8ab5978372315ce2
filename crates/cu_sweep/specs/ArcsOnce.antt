-- That a sweep takes sweep arcs alone, and a reach any edges, each at most once.
use Rattle.std.specs.Prelude.{ℕ, List, Some, ◌≡◌, ◌≢◌, ◌<◌, All, length, slice_get}
use Rattle.std.specs.List.{AllPairs}
use Rattle.cu_chordal.specs.declared.graph.Ends.{Ends}
use Rattle.cu_elimtree.specs.SweepArcs.{IsSweepArc}
use Rattle.cu_interval.specs.declared.ways.Dir.{Dir}
use Rattle.cu_interval.specs.declared.relaxing.Call.{Call}
use Rattle.cu_interval.specs.Hierarchies.{HierarchyValue, graph_of}

-- a call over a sweep arc of a rank, in this direction
pub record IsArcCall (h : HierarchyValue) (rank : ℕ) (dir : Dir) (call : Call) : Type 0 where
  pub ends : Ends
  pub at : slice_get h.edges call.edge ≡ Some ends
  pub along : call.dir ≡ dir
  pub arc : IsSweepArc (graph_of h) rank ends.low ends.high

-- no two calls are over the same edge
abbrev pub IsOnceEach : List Call → Type 0
IsOnceEach calls = AllPairs (λ (first later : Call). first.edge ≢ later.edge) calls

-- all calls are such, and no two of them are over the same edge
pub record TakesArcsOnce (h : HierarchyValue) (rank : ℕ) (dir : Dir) (calls : List Call) : Type 0 where
  pub arcs : All (IsArcCall h rank dir) calls
  pub once : IsOnceEach calls

-- a call over an edge that is there, in this direction
abbrev pub IsEdgeCall : HierarchyValue → Dir → Call → Type 0
IsEdgeCall h dir call = (call.edge < length h.edges) × (call.dir ≡ dir)

-- all calls are such, and no two of them are over the same edge
pub record TakesEdgesOnce (h : HierarchyValue) (dir : Dir) (calls : List Call) : Type 0 where
  pub edges : All (IsEdgeCall h dir) calls
  pub once : IsOnceEach calls
