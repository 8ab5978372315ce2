-- How the edges that an edit of a list touches are found: from its roads on, each edge leads to those that it is joined to.
use Rattle.std.specs.Prelude.{ℕ, Bool, List, [], ◌∷◌, Some, ◌≡◌, ◌≢◌, ◌⊎◌, ◌↔◌, ◌==◌, if◌then◌else◌, true, slice_get}
use Rattle.std.specs.List.{AllPairs, Contains}
use Rattle.cu_model.specs.declared.roads.Edit.{Edit}
use Rattle.cu_model.specs.Networks.{IsNetwork, NetworkValue}
use Rattle.cu_chordal.specs.declared.graph.Ends.{Ends}
use Rattle.cu_chordal.specs.Graphs.{up_of}
use Rattle.cu_interval.specs.Hierarchies.{HierarchyValue}
use Rattle.cu_interval.specs.Touching.{NumbersTouched}
use Rattle.cu_resettled.specs.ResettlingAll.{edited_all}
use Rattle.cu_edits.specs.EditLists.{AreChanged, HasProfile, over_network}
use Rattle.cu_edits.specs.Steps.Spreading.{IsBetween, IsOfRoad}

-- of so many edges these were found, in this order
pub record FoundValue : Type 0 where
  pub edges : ℕ
  pub found : List ℕ

-- the marks are those of the edges found, each of which was found once
pub record AreMarked (marks : List Bool) (found : List ℕ) : Type 0 where
  pub each : (edge : ℕ) → (slice_get marks edge ≡ Some true) ↔ Contains found edge
  pub once : AllPairs (λ x y. x ≢ y) found

-- those found before stand where they stood, those found since are new ones, and all new ones are there
pub record AddsFound (IsNew : ℕ → Type 0) (old now : List ℕ) : Type 0 where
  pub kept : (i edge : ℕ) → slice_get old i ≡ Some edge → slice_get now i ≡ Some edge
  pub each : (edge : ℕ) → Contains now edge → Contains old edge ⊎ IsNew edge
  pub all : (edge : ℕ) → IsNew edge → Contains now edge

-- of the higher neighbours of a rank, rising, those that the edge to one of them leads to: all from the lowest, the lowest from another
abbrev pub joined_to : List ℕ → ℕ → List ℕ
joined_to [] high = []
joined_to (lowest ∷ highs) high = if lowest == high then lowest ∷ highs else lowest ∷ []

-- one edge leads to another: it joins the higher end to a higher neighbour of the lower end that it leads to
abbrev pub LeadsTo : List Ends → ℕ → ℕ → Type 0
LeadsTo edges edge next = (ends : Ends) × (rank : ℕ) × (slice_get edges edge ≡ Some ends)
    × Contains (joined_to (up_of edges ends.low) ends.high) rank × IsBetween edges rank ends.high next

-- an edge is one of these, or one that leads to it is reached
pub data IsReached (edges : List Ends) (starts : List ℕ) : ℕ → Type 0 where
  start : (edge : ℕ) → Contains starts edge → IsReached edges starts edge
  onward : (edge next : ℕ) → IsReached edges starts edge → LeadsTo edges edge next → IsReached edges starts next

-- all edges that were reached from those found were found, and no others
abbrev pub Reaches : List Ends → List ℕ → List ℕ → Type 0
Reaches edges starts found = (edge : ℕ) → Contains found edge ↔ IsReached edges starts edge

-- the edge joins the ends of one of these roads
abbrev pub IsOfSome : HierarchyValue → List ℕ → ℕ → Type 0
IsOfSome h arcs edge = (arc : ℕ) × Contains arcs arc × IsOfRoad h arc edge

-- these roads were found, and those of some others that have the profile
abbrev pub AddsDriven : NetworkValue → ℕ → List ℕ → List ℕ → List ℕ → Type 0
AddsDriven g profile some old now = (arc : ℕ) → Contains now arc ↔ (Contains old arc ⊎ (Contains some arc × HasProfile g profile arc))

-- the edges that an edit touches which changes these roads, over the network as other edits left it
abbrev pub AreTouchedFrom : HierarchyValue → List ℕ → List ℕ → Type 0
AreTouchedFrom h arcs edges = (edits : List Edit) (edit : Edit) → IsNetwork (edited_all h.network edits)
    → AreChanged (edited_all h.network edits) edit arcs → NumbersTouched (over_network h (edited_all h.network edits)) edit edges
