-- Which ranks a chordal edge joins, said by paths of roads.
use Rattle.std.specs.Prelude.{ℕ, List, [], ◌∷◌, Some, ◌≡◌, ◌≢◌, ◌<◌, ◌⊎◌, ◌↔◌, length, min, slice_get}
use Rattle.std.specs.List.{AllPairs, Contains}
use Rattle.cu_model.specs.Networks.{NetworkValue}
use Rattle.cu_model.specs.Orders.{OrderValue}
use Rattle.cu_model.specs.Roads.{Links}
use Rattle.cu_chordal.specs.Graphs.{ChordalValue, HasEdge, IsRising}
use Rattle.cu_chordal.specs.declared.graph.Ends.{Ends}
use Rattle.cu_chordal.specs.declared.graph.TheConstants.{MAX_EDGES}

-- the road with this number is from rank x to rank y
abbrev pub LinksRanks : NetworkValue → OrderValue → ℕ → ℕ → ℕ → Type 0
LinksRanks g o a x y = (u v : ℕ) × Links g a u v × (slice_get o.rank_of u ≡ Some x) × (slice_get o.rank_of v ≡ Some y)

-- some road joins the two ranks, in either direction, whether or not it may be driven
abbrev pub Adjacent : NetworkValue → OrderValue → ℕ → ℕ → Type 0
Adjacent g o x y = (a : ℕ) × (LinksRanks g o a x y ⊎ LinksRanks g o a y x)

-- a path of roads in either direction from x over these inner ranks, all below m, to y
abbrev pub PathBelow : NetworkValue → OrderValue → ℕ → ℕ → List ℕ → ℕ → Type 0
PathBelow g o m x [] y = Adjacent g o x y
PathBelow g o m x (z ∷ zs) y = Adjacent g o x z × (z < m) × PathBelow g o m z zs y

abbrev pub JoinedBelow : NetworkValue → OrderValue → ℕ → ℕ → ℕ → Type 0
JoinedBelow g o m x y = (inner : List ℕ) × PathBelow g o m x inner y

-- two ranks are the ends of a chordal edge where a path joins them whose inner ranks are below both
abbrev pub IsEdge : NetworkValue → OrderValue → ℕ → ℕ → Type 0
IsEdge g o x y = (x ≢ y) × JoinedBelow g o (min x y) x y

-- the list of the chordal edges, each once and from its lower rank to its higher, by lower rank and then by higher rank
pub record ListsEdges (g : NetworkValue) (o : OrderValue) (edges : List Ends) : Type 0 where
  pub sorted : IsRising edges
  pub exact : (x y : ℕ) → HasEdge edges x y ↔ ((x < y) × IsEdge g o x y)

-- more chordal edges than the limit: so many different ones
pub record HasTooManyEdges (g : NetworkValue) (o : OrderValue) : Type 0 where
  pub edges : List Ends
  pub many : MAX_EDGES < length edges
  pub differ : AllPairs (λ (a b : Ends). a ≢ b) edges
  pub real : (e : Ends) → Contains edges e → (e.low < e.high) × IsEdge g o e.low e.high

-- the chordal supergraph of a road network under an order
pub record IsClosureOf (g : NetworkValue) (o : OrderValue) (graph : ChordalValue) : Type 0 where
  pub ranks : graph.ranks ≡ g.nodes
  pub edges : ListsEdges g o graph.edges
