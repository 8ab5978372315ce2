-- Hierarchies: the chordal edges of a network under an order, and two way lists for each.
use Rattle.std.specs.Prelude.{ℕ, suc, List, [], ◌∷◌, Option, Some, None, ◌≡◌, ◌≢◌, ◌<◌, ◌+◌, ◌*◌, ◌==◌, ◌&&◌, nat_lt, if◌then◌else◌, length, All, slice_get}
use Rattle.cu_model.specs.Networks.{NetworkValue, IsNetwork}
use Rattle.cu_model.specs.Orders.{OrderValue, IsOrder}
use Rattle.cu_chordal.specs.declared.graph.Ends.{Ends}
use Rattle.cu_chordal.specs.Graphs.{ChordalValue, HasEdge, IsChordal}
use Rattle.cu_chordal.specs.Edges.{ListsEdges}
use Rattle.cu_interval.specs.declared.ways.Dir.{Dir}
use Rattle.cu_interval.specs.declared.ways.Dir.TheVariants.{Up, Down}
use Rattle.cu_interval.specs.declared.ways.Way.{Way}
use Rattle.cu_interval.specs.declared.ways.Way.TheVariants.{Road, Via}
use Rattle.cu_interval.specs.declared.ways.Entry.{Entry}
use Rattle.cu_interval.specs.Low.{LeadsRanks}
use Rattle.cu_interval.specs.WayLists.{IsWayList, way_at}
use Rattle.cu_interval.specs.FirstWays.{IsBuiltList}

-- a network, an order, the edges by number, and the lists: that of edge e upwards is number 2 * e, downwards 2 * e + 1
pub record HierarchyValue : Type 0 where
  pub network : NetworkValue
  pub order : OrderValue
  pub edges : List Ends
  pub lists : List (List Entry)

-- the hierarchy's graph
abbrev pub graph_of : HierarchyValue → ChordalValue
graph_of h = record { ranks = h.network.nodes; edges = h.edges }

abbrev pub list_number : ℕ → Dir → ℕ
list_number edge Up = 2 * edge
list_number edge Down = 2 * edge + 1

abbrev pub entries_or_none : Option (List Entry) → List Entry
entries_or_none None = []
entries_or_none (Some entries) = entries

-- the list of an edge in a direction; empty where there is no such edge
abbrev pub list_of : HierarchyValue → ℕ → Dir → List Entry
list_of h edge dir = entries_or_none (slice_get h.lists (list_number edge dir))

-- the rank that an edge leads from in a direction, and the rank that it leads to
abbrev pub start_of : Ends → Dir → ℕ
start_of ends Up = ends.low
start_of ends Down = ends.high

abbrev pub end_of : Ends → Dir → ℕ
end_of ends Up = ends.high
end_of ends Down = ends.low

-- the number of the first edge with these ends, counted from a number
abbrev pub number_from : ℕ → List Ends → ℕ → ℕ → Option ℕ
number_from number [] low high = None
number_from number (e ∷ edges) low high = if e.low == low && e.high == high then Some number else number_from (suc number) edges low high

abbrev pub list_of_some : HierarchyValue → Option ℕ → Dir → List Entry
list_of_some h None dir = []
list_of_some h (Some edge) dir = list_of h edge dir

-- the list that leads from rank u to rank v; empty where no edge joins them
abbrev pub list_from : HierarchyValue → ℕ → ℕ → List Entry
list_from h u v = if nat_lt u v then list_of_some h (number_from 0 h.edges u v) Up else list_of_some h (number_from 0 h.edges v u) Down

-- the way from u to v in force at an absolute second
abbrev pub way_from : HierarchyValue → ℕ → ℕ → ℕ → Option Way
way_from h u v t = way_at (list_from h u v) t

-- a way from u to v is well formed: its road leads there, or its middle is below both, joined to both, and both halves have a way
abbrev pub IsWellFormed : HierarchyValue → ℕ → ℕ → Way → Type 0
IsWellFormed h u v (Road a) = LeadsRanks h.network h.order a u v
IsWellFormed h u v (Via m) = (m < u) × (m < v) × HasEdge h.edges m u × HasEdge h.edges m v × (list_from h u m ≢ []) × (list_from h m v ≢ [])

-- a fact of each list, with the ranks from and to which it leads
abbrev pub EachList : HierarchyValue → (ℕ → ℕ → List Entry → Type 0) → Type 0
EachList h Fact = (edge : ℕ) (dir : Dir) (ends : Ends) → slice_get h.edges edge ≡ Some ends → Fact (start_of ends dir) (end_of ends dir) (list_of h edge dir)

-- a hierarchy: its parts are within their limits, its edges exactly the chordal ones, and its lists way lists whose ways are all well formed
pub record IsHierarchy (h : HierarchyValue) : Type 0 where
  pub network : IsNetwork h.network
  pub order : IsOrder h.order
  pub same : length h.order.node_at ≡ h.network.nodes
  pub graph : IsChordal (graph_of h)
  pub edges : ListsEdges h.network h.order h.edges
  pub lists : length h.lists ≡ 2 * length h.edges
  pub spelled : All IsWayList h.lists
  pub formed : EachList h (λ u v entries. All (λ (entry : Entry). IsWellFormed h u v entry.way) entries)

-- a built hierarchy: its lists are the built ones
pub record IsBuilt (h : HierarchyValue) : Type 0 where
  pub sound : IsHierarchy h
  pub built : EachList h (IsBuiltList h.network h.order)

-- a hierarchy with this graph
abbrev pub IsHierarchyOf : ChordalValue → HierarchyValue → Type 0
IsHierarchyOf graph h = (graph ≡ graph_of h) × IsHierarchy h
