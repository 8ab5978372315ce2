-- What a chordal graph is to its contracts.
use Rattle.std.specs.Prelude.{ℕ, Bool, List, [], ◌∷◌, Option, Some, None, ◌≡◌, ◌≤◌, ◌<◌, ◌+◌, ◌⊎◌, ◌==◌, nat_lt, if◌then◌else◌, length, All, slice_get}
use Rattle.std.specs.List.{Contains, AllPairs}
use Rattle.cu_model.specs.declared.limits.TheConstants.{MAX_NODES}
use Rattle.cu_chordal.specs.declared.graph.Ends.{Ends}
use Rattle.cu_chordal.specs.declared.graph.TheConstants.{MAX_EDGES}

-- ranks 0 to ranks - 1, and the edges by number
pub record ChordalValue : Type 0 where
  pub ranks : ℕ
  pub edges : List Ends

-- by lower rank, and by higher rank where these are the same
abbrev pub ComesBefore : Ends → Ends → Type 0
ComesBefore a b = (a.low < b.low) ⊎ ((a.low ≡ b.low) × (a.high < b.high))

-- each edge comes before all later ones
abbrev pub IsRising : List Ends → Type 0
IsRising edges = AllPairs ComesBefore edges

-- an edge of the list joins the lower rank to the higher
abbrev pub HasEdge : List Ends → ℕ → ℕ → Type 0
HasEdge edges low high = Contains edges (record { low = low; high = high })

pub record IsChordal (graph : ChordalValue) : Type 0 where
  pub few_ranks : graph.ranks ≤ MAX_NODES
  pub few_edges : length graph.edges ≤ MAX_EDGES
  pub rising : IsRising graph.edges
  pub in_range : All (λ (e : Ends). (e.low < e.high) × (e.high < graph.ranks)) graph.edges
  pub chordal : (r x y : ℕ) → HasEdge graph.edges r x → HasEdge graph.edges r y → x < y → HasEdge graph.edges x y

-- the higher neighbours of a rank, rising where the edges are
abbrev pub up_of : List Ends → ℕ → List ℕ
up_of [] rank = []
up_of (e ∷ es) rank = if e.low == rank then e.high ∷ up_of es rank else up_of es rank

-- the lowest higher neighbour of a rank, where the edges rise, if it has any
abbrev pub parent_of : List Ends → ℕ → Option ℕ
parent_of edges rank = slice_get (up_of edges rank) 0

-- the lower neighbours of a rank, rising where the edges are
abbrev pub down_of : List Ends → ℕ → List ℕ
down_of [] rank = []
down_of (e ∷ es) rank = if e.high == rank then e.low ∷ down_of es rank else down_of es rank

abbrev pub one_if : Bool → ℕ
one_if b = if b then 1 else 0

-- how many edges have a lower end below a rank: the number of the rank's first edge upwards, if it has any
abbrev pub first_edge_of : List Ends → ℕ → ℕ
first_edge_of [] rank = 0
first_edge_of (e ∷ es) rank = one_if (nat_lt e.low rank) + first_edge_of es rank

-- the edge to the i-th higher neighbour of a rank has the number first + i
abbrev pub NumbersEdges : List Ends → ℕ → ℕ → Type 0
NumbersEdges edges rank first = (i high : ℕ) → slice_get (up_of edges rank) i ≡ Some high → slice_get edges (first + i) ≡ Some (record { low = rank; high = high })

-- the number of the edge with these ends, where there is one
abbrev pub FindsEdge : List Ends → ℕ → ℕ → Option ℕ → Type 0
FindsEdge edges low high None = HasEdge edges low high → ⊥
FindsEdge edges low high (Some e) = slice_get edges e ≡ Some (record { low = low; high = high })
