-- Which calls the steps of a led day add.
use Rattle.std.specs.Prelude.{ℕ, List, ◌≡◌, ◌++◌, ◌⊎◌}
use Rattle.cu_interval.specs.declared.ways.Dir.{Dir}
use Rattle.cu_interval.specs.declared.shortcuts.Shortcut.{Shortcut}
use Rattle.cu_interval.specs.Hierarchies.{HierarchyValue, graph_of}
use Rattle.cu_sweep.specs.LedCalls.{AreInSweeps, AreSomeOf, IsWay, LeadOn}
use Rattle.cu_day.specs.DayCalls.{AddsSweepArcs}

-- some of these arcs were asked, in their order
pub record AddsSomeOf (arcs before now : List Shortcut) : Type 0 where
  pub some : List Shortcut
  pub are : AreSomeOf arcs some
  pub added : now ≡ before ++ some

-- some arcs of two sweeps were
pub record AddsInSweeps (h : HierarchyValue) (from to : ℕ) (before now : List Shortcut) : Type 0 where
  pub arcs : List Shortcut
  pub are : AreInSweeps h from to arcs
  pub added : now ≡ before ++ arcs

-- arcs that lead from one rank to another were
pub record AddsLegs (h : HierarchyValue) (rank : ℕ) (dir : Dir) (from to : ℕ) (before now : List Shortcut) : Type 0 where
  pub arcs : List Shortcut
  pub leads : LeadOn h rank dir from arcs to
  pub added : now ≡ before ++ arcs

-- such arcs from one rank to some
abbrev pub AddsLegsOn : HierarchyValue → ℕ → Dir → ℕ → List Shortcut → List Shortcut → Type 0
AddsLegsOn h rank dir from before now = (to : ℕ) × AddsLegs h rank dir from to before now

-- the arcs of a way were
pub record AddsWay (h : HierarchyValue) (from to : ℕ) (before now : List Shortcut) : Type 0 where
  pub arcs : List Shortcut
  pub are : IsWay h from to arcs
  pub added : now ≡ before ++ arcs

-- some arcs of two sweeps were, and then nothing, or the sweep arcs of the day that isn't led
pub record AddsLimited (h : HierarchyValue) (from to : ℕ) (before now : List Shortcut) : Type 0 where
  pub arcs : List Shortcut
  pub are : AreInSweeps h from to arcs
  pub over : (now ≡ before ++ arcs) ⊎ AddsSweepArcs (graph_of h) from to (before ++ arcs) now
