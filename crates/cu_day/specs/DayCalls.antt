-- The calls by which a day function is found, each by the shortcut that is asked.
use Rattle.std.specs.Prelude.{ℕ, List, ◌≡◌, ◌≢◌, ◌++◌, ◌⊎◌, Some, All, slice_get}
use Rattle.std.specs.List.{AllPairs}
use Rattle.cu_chordal.specs.declared.graph.Ends.{Ends}
use Rattle.cu_chordal.specs.Graphs.{ChordalValue}
use Rattle.cu_elimtree.specs.SweepArcs.{IsSweepArc}
use Rattle.cu_interval.specs.declared.ways.Dir.{Dir}
use Rattle.cu_interval.specs.declared.ways.Dir.TheVariants.{Up, Down}
use Rattle.cu_interval.specs.declared.shortcuts.Shortcut.{Shortcut}
use Rattle.cu_interval.specs.Hierarchies.{HierarchyValue, graph_of}
use Rattle.cu_sweep.specs.LedCalls.{AreInSweeps, IsWay}

-- the hierarchy whose functions are rebuilt, and the calls so far
pub record DayRebuiltValue : Type 0 where
  pub hierarchy : HierarchyValue
  pub calls : List Shortcut

-- a sweep arc of a rank, taken in a direction
abbrev pub IsArcCall : ChordalValue → ℕ → Dir → Shortcut → Type 0
IsArcCall graph rank dir call = (call.dir ≡ dir) × (ends : Ends) × (slice_get graph.edges call.edge ≡ Some ends)
    × IsSweepArc graph rank ends.low ends.high

-- no two of these are over one edge
abbrev pub AreOnce : List Shortcut → Type 0
AreOnce calls = AllPairs (λ (call later : Shortcut). call.edge ≢ later.edge) calls

-- some calls were added: over sweep arcs of the start upwards, and then over those of the end downwards, each at most once per sweep
pub record AddsSweepArcs (graph : ChordalValue) (from to : ℕ) (before now : List Shortcut) : Type 0 where
  pub ups : List Shortcut
  pub downs : List Shortcut
  pub added : now ≡ before ++ (ups ++ downs)
  pub up : All (IsArcCall graph from Up) ups
  pub down : All (IsArcCall graph to Down) downs
  pub once_up : AreOnce ups
  pub once_down : AreOnce downs

-- A led day adds calls along a way, then some of two sweeps in their order, and then nothing, or those of the day that isn't led.
pub record AddsLedArcs (h : HierarchyValue) (from to : ℕ) (before now : List Shortcut) : Type 0 where
  pub way : List Shortcut
  pub led : List Shortcut
  pub driven : IsWay h from to way
  pub some : AreInSweeps h from to led
  pub over : (now ≡ before ++ (way ++ led)) ⊎ AddsSweepArcs (graph_of h) from to (before ++ (way ++ led)) now
