-- The elimination tree of a chordal graph.
use Rattle.std.specs.Prelude.{ℕ, zero, suc, List, [], ◌∷◌, Option, Some, None, ◌≡◌, ◌<◌, ◌≤◌, length, slice_get}
use Rattle.std.specs.List.{Contains}
use Rattle.cu_model.specs.declared.limits.TheConstants.{MAX_NODES}
use Rattle.cu_chordal.specs.Graphs.{ChordalValue, HasEdge, parent_of}

-- the parent of each rank
pub record IsTreeOf (graph : ChordalValue) (parents : List (Option ℕ)) : Type 0 where
  pub long : length parents ≡ graph.ranks
  pub each : (rank : ℕ) → rank < graph.ranks → slice_get parents rank ≡ Some (parent_of graph.edges rank)

abbrev pub flat : Option (Option ℕ) → Option ℕ
flat None = None
flat (Some parent) = parent

-- a rank, its parent, the parent's parent and so on, as many as the fuel lasts
abbrev pub climb : ℕ → List (Option ℕ) → Option ℕ → List ℕ
climb zero parents rank = []
climb (suc fuel) parents None = []
climb (suc fuel) parents (Some rank) = rank ∷ climb fuel parents (flat (slice_get parents rank))

-- a rank and all that come above it
abbrev pub ancestors_of : List (Option ℕ) → ℕ → List ℕ
ancestors_of parents rank = climb (length parents) parents (Some rank)

-- a parent is above its child and is itself a rank
abbrev pub Rises : List (Option ℕ) → Type 0
Rises parents = (rank parent : ℕ) → slice_get parents rank ≡ Some (Some parent) → (rank < parent) × (parent < length parents)

pub record IsTree (parents : List (Option ℕ)) : Type 0 where
  pub few : length parents ≤ MAX_NODES
  pub rises : Rises parents

-- every higher neighbour of a rank is one of its ancestors
abbrev pub HoldsHigherNeighbours : ChordalValue → List (Option ℕ) → Type 0
HoldsHigherNeighbours graph parents = (rank high : ℕ) → HasEdge graph.edges rank high → Contains (ancestors_of parents rank) high

-- every higher neighbour of an ancestor of a rank is an ancestor of that rank too
abbrev pub HoldsAncestorNeighbours : ChordalValue → List (Option ℕ) → Type 0
HoldsAncestorNeighbours graph parents = (rank low high : ℕ) → Contains (ancestors_of parents rank) low → HasEdge graph.edges low high → Contains (ancestors_of parents rank) high
