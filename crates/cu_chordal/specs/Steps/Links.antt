-- The links of a network's ranks.
use Rattle.std.specs.Prelude.{ℕ, List, Some, ◌≡◌, ◌≤◌, ◌<◌, ◌↔◌, All, length, min, max, slice_get, slice_index}
use Rattle.std.specs.List.{Contains}
use Rattle.cu_model.specs.Networks.{NetworkValue}
use Rattle.cu_model.specs.Orders.{OrderValue}
use Rattle.cu_chordal.specs.Edges.{LinksRanks, Adjacent}
use Rattle.cu_chordal.specs.declared.closure.RankEnds.{RankEnds}

-- each road's lower and higher rank
pub record AreRankEnds (g : NetworkValue) (o : OrderValue) (roads : ℕ) (lows highs : List ℕ) : Type 0 where
  pub lows_long : length lows ≡ roads
  pub highs_long : length highs ≡ roads
  pub each : (a : ℕ) → a < roads → (x y : ℕ) × LinksRanks g o a x y × (slice_index lows a ≡ min x y) × (slice_index highs a ≡ max x y) × (x < g.nodes) × (y < g.nodes)

abbrev pub AreEnds : NetworkValue → OrderValue → RankEnds → Type 0
AreEnds g o ends = AreRankEnds g o (length g.arcs) ends.lows.items ends.highs.items

-- these are the ranks that a rank has a link to and that are not below it
pub record AreLinks (g : NetworkValue) (o : OrderValue) (rank : ℕ) (links : List ℕ) : Type 0 where
  pub exact : (y : ℕ) → Contains links y ↔ ((rank ≤ y) × Adjacent g o rank y)
  pub in_range : All (λ y. (rank ≤ y) × (y < g.nodes)) links

-- the links of each rank to ranks not below it
pub record HoldsLinks (g : NetworkValue) (o : OrderValue) (links : List (List ℕ)) : Type 0 where
  pub long : length links ≡ g.nodes
  pub each : (rank : ℕ) (part : List ℕ) → slice_get links rank ≡ Some part → AreLinks g o rank part
