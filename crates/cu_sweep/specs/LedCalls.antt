-- The calls of a led query: those along a way that is driven first, then some of a sweep's, and, where these don't settle it, a query's.
use Rattle.std.specs.Prelude.{ℕ, List, [], ◌∷◌, ◌++◌, Option, Some, ◌≡◌, ◌≢◌, ◌⊎◌, All, length, map, flat_map, reverse, slice_get}
use Rattle.std.specs.List.{AllPairs, range_with_len}
use Rattle.cu_chordal.specs.declared.graph.Ends.{Ends}
use Rattle.cu_chordal.specs.Graphs.{ChordalValue, first_edge_of, up_of}
use Rattle.cu_elimtree.specs.SweepArcs.{IsSweepArc, ancestors_in}
use Rattle.cu_interval.specs.declared.ways.Dir.{Dir}
use Rattle.cu_interval.specs.declared.ways.Dir.TheVariants.{Up, Down}
use Rattle.cu_interval.specs.declared.relaxing.Call.{Call}
use Rattle.cu_interval.specs.declared.shortcuts.Shortcut.{Shortcut}
use Rattle.cu_interval.specs.Hierarchies.{HierarchyValue, end_of, graph_of, start_of}
use Rattle.cu_sweep.specs.Sweeps.{AddsAll, sweep_calls, until_long}

abbrev pub arc_by : Dir → ℕ → Shortcut
arc_by dir edge = record { edge = edge; dir = dir }

-- the arc over which a call is
abbrev pub arc_of : Call → Shortcut
arc_of call = arc_by call.dir call.edge

-- the arcs between a rank and its higher neighbours, rising, in a direction
abbrev pub arcs_of_rank : HierarchyValue → Dir → ℕ → List Shortcut
arcs_of_rank h dir x = map (arc_by dir) (range_with_len (first_edge_of h.edges x) (length (up_of h.edges x)))

-- those of one rank after the other
abbrev pub arcs_of_ranks : HierarchyValue → Dir → List ℕ → List Shortcut
arcs_of_ranks h dir ranks = flat_map (arcs_of_rank h dir) ranks

-- all arcs of an upward sweep: those from the ancestors of its start, rising
abbrev pub arcs_up : HierarchyValue → ℕ → List Shortcut
arcs_up h from = arcs_of_ranks h Up (ancestors_in (graph_of h) from)

-- all arcs of a downward sweep: those to the ancestors of its end, falling
abbrev pub arcs_down : HierarchyValue → ℕ → List Shortcut
arcs_down h to = arcs_of_ranks h Down (reverse (ancestors_in (graph_of h) to))

-- some of a list, in its order, each at its own place
abbrev pub AreSomeOf : List Shortcut → List Shortcut → Type 0
AreSomeOf [] some = some ≡ []
AreSomeOf (arc ∷ arcs) some = AreSomeOf arcs some ⊎ ((rest : List Shortcut) × (some ≡ arc ∷ rest) × AreSomeOf arcs rest)

-- some arcs of two sweeps: up from one rank, and then down to another
pub record AreInSweeps (h : HierarchyValue) (from to : ℕ) (arcs : List Shortcut) : Type 0 where
  pub ups : List Shortcut
  pub downs : List Shortcut
  pub parts : arcs ≡ ups ++ downs
  pub up : AreSomeOf (arcs_up h from) ups
  pub down : AreSomeOf (arcs_down h to) downs

-- an edge leads from one rank to another in a direction
pub record LeadsFrom (graph : ChordalValue) (edge : ℕ) (dir : Dir) (from to : ℕ) : Type 0 where
  pub ends : Ends
  pub at : slice_get graph.edges edge ≡ Some ends
  pub start : start_of ends dir ≡ from
  pub end : end_of ends dir ≡ to

-- a sweep arc of a rank, in a direction, that leads from one rank to another
pub record IsLegOf (h : HierarchyValue) (rank : ℕ) (dir : Dir) (arc : Shortcut) (from to : ℕ) : Type 0 where
  pub ends : Ends
  pub at : slice_get h.edges arc.edge ≡ Some ends
  pub along : arc.dir ≡ dir
  pub start : start_of ends dir ≡ from
  pub end : end_of ends dir ≡ to
  pub swept : IsSweepArc (graph_of h) rank ends.low ends.high

-- such arcs, each from where the one before leads
abbrev pub LeadOn : HierarchyValue → ℕ → Dir → ℕ → List Shortcut → ℕ → Type 0
LeadOn h rank dir from [] to = from ≡ to
LeadOn h rank dir from (arc ∷ arcs) to = (next : ℕ) × IsLegOf h rank dir arc from next × LeadOn h rank dir next arcs to

-- a way from one rank: up over sweep arcs of it, and then down over those of another
pub record IsWay (h : HierarchyValue) (from to : ℕ) (arcs : List Shortcut) : Type 0 where
  pub ups : List Shortcut
  pub downs : List Shortcut
  pub top : ℕ
  pub last : ℕ
  pub parts : arcs ≡ ups ++ downs
  pub up : LeadOn h from Up from ups top
  pub down : LeadOn h to Down top downs last

-- these are sweep arcs of a rank, in a direction, and no two of them are over one edge
pub record AreArcsOnce (h : HierarchyValue) (rank : ℕ) (dir : Dir) (arcs : List Shortcut) : Type 0 where
  pub each : All (λ (arc : Shortcut). (from to : ℕ) × IsLegOf h rank dir arc from to) arcs
  pub once : AllPairs (λ (arc later : Shortcut). arc.edge ≢ later.edge) arcs

-- calls along a way were added
pub record AddsWay (h : HierarchyValue) (from to : ℕ) (before now : Option (List Call)) : Type 0 where
  pub way : List Call
  pub driven : IsWay h from to (map arc_of way)
  pub added : AddsAll before now way

-- some calls of two sweeps were added
pub record AddsSome (h : HierarchyValue) (from to : ℕ) (before now : Option (List Call)) : Type 0 where
  pub calls : List Call
  pub some : AreInSweeps h from to (map arc_of calls)
  pub added : AddsAll before now calls

-- A led query adds calls along a way, then some calls of two sweeps, and then nothing, or the calls of the query that isn't led.
pub record AddsLed (h : HierarchyValue) (from to second : ℕ) (before now : Option (List Call)) : Type 0 where
  pub way : List Call
  pub led : List Call
  pub rest : List Call
  pub driven : IsWay h from to (map arc_of way)
  pub some : AreInSweeps h from to (map arc_of led)
  pub over : (rest ≡ []) ⊎ (rest ≡ until_long h (sweep_calls h from to second))
  pub added : AddsAll before now ((way ++ led) ++ rest)
