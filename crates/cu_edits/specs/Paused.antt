-- A settler put aside between two steps.
use Rattle.std.specs.Prelude.{ℕ, List}
use Rattle.cu_model.specs.declared.roads.Edit.{Edit}
use Rattle.cu_chordal.specs.Graphs.{ChordalValue}
use Rattle.cu_interval.specs.declared.ways.TouchedEdge.{TouchedEdge}
use Rattle.cu_interval.specs.Hierarchies.{HierarchyValue}
use Rattle.cu_edits.specs.declared.settler_state.SettlerState.{SettlerState}
use Rattle.cu_edits.specs.Steps.Holding.{settling_of}
use Rattle.cu_edits.specs.Steps.SettlerStates.{Holds}

-- the edges settled so far with their lists, and the functions that are held
pub record PausedValue : Type 0 where
  pub settled : List TouchedEdge
  pub state : SettlerState

-- it was put aside by a settler of this edit of this hierarchy
abbrev pub FitsPaused : HierarchyValue → List Edit → PausedValue → Type 0
FitsPaused h edit paused = (graph : ChordalValue) × (arcs : List (List ℕ)) × Holds (settling_of h edit paused.settled) graph arcs paused.state
