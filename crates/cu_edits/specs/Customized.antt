-- Edges whose lists are what customization makes of the lists below them.
use Rattle.std.specs.Prelude.{ℕ, Bool, List, [], ◌∷◌, Some, true, ◌≡◌, slice_get, slice_set}
use Rattle.cu_chordal.specs.declared.graph.Ends.{Ends}
use Rattle.cu_interval.specs.declared.ways.Dir.{Dir}
use Rattle.cu_interval.specs.declared.ways.TouchedEdge.{TouchedEdge}
use Rattle.cu_interval.specs.Hierarchies.{HierarchyValue, end_of, list_of, start_of}
use Rattle.cu_interval.specs.Resettling.{IsResettledList}

-- both lists of an edge are the resettled ones of the hierarchy itself
abbrev pub IsCustomizedEdge : HierarchyValue → ℕ → Type 0
IsCustomizedEdge h edge = (dir : Dir) (ends : Ends) → slice_get h.edges edge ≡ Some ends
    → IsResettledList h (start_of ends dir) (end_of ends dir) (list_of h edge dir)

-- each edge that is marked is such an edge
abbrev pub AreCustomized : HierarchyValue → List Bool → Type 0
AreCustomized h marks = (edge : ℕ) → slice_get marks edge ≡ Some true → IsCustomizedEdge h edge

-- marks after an edit: those of the edges that it touched are set
abbrev pub marked : List Bool → List TouchedEdge → List Bool
marked marks [] = marks
marked marks (touched ∷ more) = marked (slice_set marks touched.edge true) more
