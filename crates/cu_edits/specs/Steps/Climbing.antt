-- The edges that one edge leads to, rank after rank: from each rank those to some of its higher neighbours, its heads.
use Rattle.std.specs.Prelude.{ℕ, Bool, List, [], ◌∷◌, Option, Some, None, ◌≡◌, ◌<◌, ◌⊎◌, ◌==◌, if◌then◌else◌, length, true, slice_get}
use Rattle.std.specs.List.{AllPairs, Contains}
use Rattle.cu_chordal.specs.declared.graph.Ends.{Ends}
use Rattle.cu_chordal.specs.Graphs.{parent_of}
use Rattle.cu_interval.specs.Hierarchies.{HierarchyValue}
use Rattle.cu_edits.specs.Steps.Found.{AreTouchedFrom, LeadsTo, Reaches}
use Rattle.cu_edits.specs.Steps.Spreading.{IsOfRoad}
use Rattle.cu_edits.specs.declared.finding.Planned.{Planned}

-- the edge joins the rank to this higher neighbour
abbrev pub IsTo : List Ends → ℕ → ℕ → ℕ → Type 0
IsTo edges rank head edge = slice_get edges edge ≡ Some (record { low = rank; high = head })

-- the edge joins the rank to one of these
abbrev pub IsHead : List Ends → ℕ → List ℕ → ℕ → Type 0
IsHead edges rank heads edge = (head : ℕ) × Contains heads head × IsTo edges rank head edge

-- the heads of the lowest of a rank's higher neighbours: all others, where it is a head of the rank, and else the same
abbrev pub heads_behind : List ℕ → List ℕ → List ℕ
heads_behind (lowest ∷ ups) (first ∷ heads) = if lowest == first then ups else first ∷ heads
heads_behind ups heads = []

-- the edge has a mark
abbrev pub IsMarked : List Bool → ℕ → Type 0
IsMarked marks edge = slice_get marks edge ≡ Some true

-- all that a marked edge leads to is marked
abbrev pub LeadToMarked : List Ends → List Bool → Type 0
LeadToMarked edges marks = (edge next : ℕ) → IsMarked marks edge → LeadsTo edges edge next → IsMarked marks next

-- the edge from a rank to this head is marked, and the head is its lowest higher neighbour
abbrev pub HasMarked : List Ends → ℕ → ℕ → List Bool → Type 0
HasMarked edges rank head marks = (edge : ℕ) × (slice_get edges edge ≡ Some (record { low = rank; high = head })) × (parent_of edges rank ≡ Some head) × IsMarked marks edge

-- some of all edges, so many, with those of these that aren't marked
pub record AreCounted (marks : List Bool) (some all : List ℕ) (count : ℕ) : Type 0 where
  pub counts : count ≡ length all
  pub of : (edge : ℕ) → Contains some edge → Contains all edge
  pub marked : (edge : ℕ) → Contains all edge → Contains some edge ⊎ IsMarked marks edge

-- so many edges are reached from one on, and those of them that aren't marked are among these, if all that a marked one leads to is marked
abbrev pub IsClimbed : List Ends → ℕ → List Bool → List ℕ → ℕ → Type 0
IsClimbed edges start marks some count = LeadToMarked edges marks
    → (all : List ℕ) × Reaches edges (start ∷ []) all × AllPairs (λ x y. x < y) all × AreCounted marks some all count

-- the edge that joins the ends of a road; none where there is none
abbrev pub IsEdgeOf : HierarchyValue → ℕ → Option ℕ → Type 0
IsEdgeOf h arc None = (edge : ℕ) → IsOfRoad h arc edge → ⊥
IsEdgeOf h arc (Some edge) = IsOfRoad h arc edge

-- so many edges does an edit touch which changes these roads, and those of them that aren't marked are among these
abbrev pub ArePlanned : HierarchyValue → List ℕ → List Bool → Planned → Type 0
ArePlanned h arcs marks planned = LeadToMarked h.edges marks
    → (all : List ℕ) × AreTouchedFrom h arcs all × AreCounted marks planned.edges.items all planned.count
