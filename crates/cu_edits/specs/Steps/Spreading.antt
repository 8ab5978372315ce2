-- How touched edges are found: from the changed roads on, each edge adds those above it.
use Rattle.std.specs.Prelude.{ℕ, List, Option, Some, None, ◌≡◌, ◌<◌, ◌⊎◌, length, max, min, slice_get}
use Rattle.cu_model.specs.declared.roads.Edit.{Edit}
use Rattle.cu_model.specs.declared.roads.RoadArc.{RoadArc}
use Rattle.cu_chordal.specs.declared.graph.Ends.{Ends}
use Rattle.cu_chordal.specs.Edges.{LinksRanks}
use Rattle.cu_chordal.specs.Graphs.{ChordalValue, HasEdge}
use Rattle.cu_interval.specs.Hierarchies.{HierarchyValue}
use Rattle.cu_interval.specs.Touching.{IsChanged}
use Rattle.cu_links.specs.Buckets.{BucketsValue, IsFree, IsHeld, IsLowestHeld, popped}

-- the edge joins the two ranks
abbrev pub IsBetween : List Ends → ℕ → ℕ → ℕ → Type 0
IsBetween edges first second edge = slice_get edges edge ≡ Some (record { low = min first second; high = max first second })

-- the edge joins the ends of the road
abbrev pub IsOfRoad : HierarchyValue → ℕ → ℕ → Type 0
IsOfRoad h arc edge = (x y : ℕ) × LinksRanks h.network h.order arc x y × IsBetween h.edges x y edge

-- the edge joins the ends of a road below this one with the profile
abbrev pub IsOfProfile : HierarchyValue → ℕ → ℕ → ℕ → Type 0
IsOfProfile h profile count edge = (arc : ℕ) × (road : RoadArc) × (arc < count) × (slice_get h.network.arcs arc ≡ Some road) × (road.profile ≡ profile) × IsOfRoad h arc edge

-- the edge joins the ends of a changed road
abbrev pub IsOfChanged : HierarchyValue → Edit → ℕ → Type 0
IsOfChanged h edit edge = (arc : ℕ) × IsChanged h.network edit arc × IsOfRoad h arc edge

-- one edge is a lower side of a triangle and the other the side above: it joins the higher end to another higher neighbour of the lower end
abbrev pub IsAbove : List Ends → ℕ → ℕ → Type 0
IsAbove edges edge above = (ends : Ends) × (rank : ℕ) × (slice_get edges edge ≡ Some ends) × HasEdge edges ends.low rank × IsBetween edges rank ends.high above

-- the rank is the lower end of the edge
abbrev pub IsLowEnd : List Ends → ℕ → ℕ → Type 0
IsLowEnd edges edge rank = (ends : Ends) × (slice_get edges edge ≡ Some ends) × (ends.low ≡ rank)

-- buckets of a graph: for its ranks and edges, each edge held at its lower end
pub record AreBucketsOf (graph : ChordalValue) (buckets : BucketsValue) : Type 0 where
  pub ranks : buckets.ranks ≡ graph.ranks
  pub count : length buckets.states ≡ length graph.edges
  pub held : (edge rank : ℕ) → IsHeld buckets edge rank → IsLowEnd graph.edges edge rank

-- the edge is one of those to be added, wasn't added before, and is held at its lower end now
pub record IsAdded (edges : List Ends) (IsNew : ℕ → Type 0) (old new : BucketsValue) (edge : ℕ) : Type 0 where
  pub is_new : IsNew edge
  pub free : IsFree old edge
  pub rank : ℕ
  pub low : IsLowEnd edges edge rank
  pub held : IsHeld new edge rank

-- edges were added, each at its lower end, and all others are as before
pub record Adds (edges : List Ends) (IsNew : ℕ → Type 0) (old new : BucketsValue) : Type 0 where
  pub ranks : new.ranks ≡ old.ranks
  pub last : new.last ≡ old.last
  pub count : length new.states ≡ length old.states
  pub each : (edge : ℕ) → (slice_get new.states edge ≡ slice_get old.states edge) ⊎ IsAdded edges IsNew old new edge
  pub all : (edge : ℕ) → IsNew edge → IsFree new edge → ⊥

-- an edge of the lowest rank is taken out, if one is held, and the edges above it are added
abbrev pub Takes : List Ends → BucketsValue → BucketsValue → Option ℕ → Type 0
Takes edges old new None = (new ≡ old) × ((edge rank : ℕ) → IsHeld old edge rank → ⊥)
Takes edges old new (Some edge) = (rank : ℕ) × IsLowestHeld old edge rank × Adds edges (IsAbove edges edge) (popped old edge rank) new
