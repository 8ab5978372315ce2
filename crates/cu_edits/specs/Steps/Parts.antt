-- What an edit is settled over.
use Rattle.std.specs.Prelude.{ℕ, List, Bool, ◌≡◌, ◌*◌, length}
use Rattle.cu_model.specs.declared.roads.Edit.{Edit}
use Rattle.cu_chordal.specs.Graphs.{ChordalValue}
use Rattle.cu_interval.specs.EdgeArcs.{AreEdgeArcs}
use Rattle.cu_interval.specs.Hierarchies.{HierarchyValue, IsHierarchyOf}
use Rattle.cu_interval.specs.declared.ways.TouchedEdge.{TouchedEdge}
use Rattle.cu_edits.specs.Customized.{AreCustomized}
use Rattle.cu_edits.specs.Settling.{SettlingValue}
use Rattle.cu_edits.specs.Steps.Holding.{settling_of}
use Rattle.cu_edits.specs.Steps.Moving.{MovedValue}
use Rattle.cu_edits.specs.Lists.{AreInRange, AreSound}

-- a hierarchy before an edit, the edit, the graph and the roads of the hierarchy, and marks of edges
pub record PartsValue : Type 0 where
  pub before : HierarchyValue
  pub edit : List Edit
  pub graph : ChordalValue
  pub arcs : List (List ℕ)
  pub customized : List Bool

-- the graph and the roads are those of a hierarchy, and an edit is one of it
pub record AreParts (h : HierarchyValue) (edit : List Edit) (graph : ChordalValue) (arcs : List (List ℕ)) : Type 0 where
  pub hierarchy : IsHierarchyOf graph h
  pub roads : AreEdgeArcs h.network h.order h.edges arcs
  pub range : AreInRange h.network edit
  pub pieces : AreSound edit

-- so they are, and the edges with a mark are customized
abbrev pub FitTogether : PartsValue → Type 0
FitTogether p = AreParts p.before p.edit p.graph p.arcs × AreCustomized p.before p.customized

-- these edges were settled
abbrev pub settling_over : PartsValue → List TouchedEdge → SettlingValue
settling_over p settled = settling_of p.before p.edit settled

-- it is told of each list whether it was moved
abbrev pub TellsLists : PartsValue → MovedValue → Type 0
TellsLists p moved = length moved.places ≡ 2 * length p.graph.edges
