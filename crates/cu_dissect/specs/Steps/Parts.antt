-- What the steps of a dissection know of its parts.
use Rattle.std.specs.Prelude.{ℕ, Bool, false, List, [], ◌∷◌, ◌++◌, Some, ◌≡◌, ◌<◌, ◌^◌, All, length, slice_get, slice_index_or}
use Rattle.std.specs.List.{AllPairs, flat_map, list_any}
use Rattle.cu_model.specs.declared.roads.RoadArc.{RoadArc}
use Rattle.cu_model.specs.Networks.{NetworkValue}
use Rattle.cu_chordal.specs.Groups.{AreGroups}
use Rattle.cu_dissect.specs.declared.dissecting.Dissection.{Dissection}
use Rattle.cu_dissect.specs.declared.splitting.Map.{Map}
use Rattle.cu_dissect.specs.Dissection.{Dissected, SplitValue}

-- a part of so many nodes, by rising number
pub record IsPart (nodes : ℕ) (part : List ℕ) : Type 0 where
  pub in_range : All (λ node. node < nodes) part
  pub rising : AllPairs (λ u v. u < v) part

-- both sides of a split are parts, with fewer nodes than this
pub record AreParts (nodes most : ℕ) (split : SplitValue) : Type 0 where
  pub left : IsPart nodes split.left
  pub right : IsPart nodes split.right
  pub left_short : length split.left < most
  pub right_short : length split.right < most

-- the ends of each road, the tail first, and opposite to each the other end
abbrev pub near_ends : List RoadArc → List ℕ
near_ends arcs = flat_map (λ (arc : RoadArc). arc.tail ∷ arc.head ∷ []) arcs

abbrev pub far_ends : List RoadArc → List ℕ
far_ends arcs = flat_map (λ (arc : RoadArc). arc.head ∷ arc.tail ∷ []) arcs

-- the neighbours of each node: the other ends of its roads
pub record HoldsNeighbours (g : NetworkValue) (neighbours : List (List ℕ)) : Type 0 where
  pub groups : AreGroups (near_ends g.arcs) (far_ends g.arcs) g.nodes neighbours
  pub in_range : (node : ℕ) (list : List ℕ) → slice_get neighbours node ≡ Some list → All (λ other. other < g.nodes) list

-- the places and neighbours are those of the network's nodes
pub record IsMap (map : Map) : Type 0 where
  pub few : map.network.now.nodes < 2 ^ 32
  pub placed : length map.places.now ≡ map.network.now.nodes
  pub joined : HoldsNeighbours map.network.now map.neighbours

-- no node is marked
abbrev pub AreClear : List Bool → Type 0
AreClear marks = (node : ℕ) → slice_index_or marks node false ≡ false

-- whether one of these nodes is marked
abbrev pub is_marked : List Bool → List ℕ → Bool
is_marked marks nodes = list_any (λ node. slice_index_or marks node false) nodes

-- whether a node has a marked neighbour
abbrev pub is_beside : List (List ℕ) → List Bool → ℕ → Bool
is_beside neighbours marks node = is_marked marks (slice_index_or neighbours node [])

-- the order and the splits of a part were added
pub record Adds (part : Dissected) (old new : Dissection) : Type 0 where
  pub order : new.order.items ≡ old.order.items ++ part.order
  pub splits : new.splits.items ≡ old.splits.items ++ part.splits
