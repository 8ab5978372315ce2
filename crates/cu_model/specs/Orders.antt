-- Orders of the nodes.
use Rattle.std.specs.Prelude.{ℕ, List, ◌≡◌, ◌≤◌, ◌<◌, Some, length, slice_get, All, eqb}
use Rattle.std.specs.List.{IsDistinct}
use Rattle.cu_model.specs.declared.limits.TheConstants.{MAX_NODES}

-- the node at each rank, and the rank of each node
pub record OrderValue : Type 0 where
  pub node_at : List ℕ
  pub rank_of : List ℕ

-- two lists of one length, each the other's inverse
pub record IsOrder (o : OrderValue) : Type 0 where
  pub few : length o.node_at ≤ MAX_NODES
  pub same : length o.rank_of ≡ length o.node_at
  pub ranked : (rank node : ℕ) → slice_get o.node_at rank ≡ Some node → slice_get o.rank_of node ≡ Some rank
  pub placed : (node rank : ℕ) → slice_get o.rank_of node ≡ Some rank → slice_get o.node_at rank ≡ Some node

-- a list of the nodes, each of them once: a permutation
pub record ListsEachNodeOnce (nodes : List ℕ) : Type 0 where
  pub few : length nodes ≤ MAX_NODES
  pub in_range : All (λ node. node < length nodes) nodes
  pub once : IsDistinct eqb nodes
