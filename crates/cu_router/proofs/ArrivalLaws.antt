-- How late a least arrival may be: no walk that arrives first passes a node twice.
use Rattle.std.proofs.Common.{◌≡◌, ◌≤◌, ◌<◌, ◌+◌, ◌*◌, ℕ, List, [], ◌∷◌, Some, length, sym, arith}
use Rattle.std.specs.Prelude.{slice_get}
use Rattle.std.proofs.lemmas.Option.{slice_get_within}
use Rattle.cu_model.specs.declared.limits.TheConstants.{MAX_UNTIL}
use Rattle.cu_model.specs.Networks.{NetworkValue, IsNetwork}
use Rattle.cu_model.specs.Orders.{OrderValue, IsOrder}
use Rattle.cu_model.specs.Roads.{IsLeastArrival, IsWalk, drive}
use Rattle.cu_model.proofs.RoadLaws.{drive-near}
use Rattle.cu_interval.specs.Low.{WalkBelow}
use Rattle.cu_interval.proofs.Simple.{simple, through_below}
use Rattle.cu_sweep.proofs.Peaks.{IsRankWalk}
use Rattle.cu_sweep.proofs.RankWalks.{below_walk, ranks_of_walk, walk_of_ranks}

module _ (g : NetworkValue) (o : OrderValue) (network : IsNetwork g) (order : IsOrder o) (long : length o.node_at ≡ g.nodes) where
  -- all ranks of a walk are below their number
  all_below : (u a : ℕ) (walk : List ℕ) (v : ℕ) → IsRankWalk g o u (a ∷ walk) v → WalkBelow g o g.nodes u (a ∷ walk) v
  all_below u a [] v (x, leads, same) = rw (sym same) leads
  all_below u a (b ∷ walk) v (x, leads, more) =
      let (tail, head, is, from, to) = leads in
      let placed : x < length o.node_at = slice_get_within o.node_at x head (order.placed head x to) in
      let below : x < g.nodes = omega (arith, placed, long) in
      (x, leads, below, all_below x b walk v more)

  -- no least arrival takes more than eight days a node, and eight more
  pub arrival_near : (from to u v t arrival : ℕ) → slice_get o.node_at from ≡ Some u → slice_get o.node_at to ≡ Some v
      → IsLeastArrival g u v t arrival → arrival ≤ t + MAX_UNTIL * (g.nodes + 1)
  arrival_near from to u v t arrival start stop f =
      let (walk, is, drives) = f.reached in
      by walk is drives
    where
      by : (walk : List ℕ) → IsWalk g u walk v → drive g walk t ≡ arrival → arrival ≤ t + MAX_UNTIL * (g.nodes + 1)
      by [] is drives = omega (arith, drives)
      by (a ∷ walk) is drives =
          let ranks = ranks_of_walk g o network order long from to u (a ∷ walk) v start stop is in
          let s = simple g o network g.nodes from (a ∷ walk) to (all_below from a walk to ranks) in
          let below = through_below g o g.nodes from s.arcs s.inner to s.through in
          let short = walk_of_ranks g o order from to u s.arcs v start stop (below_walk g o g.nodes from s.arcs to below) in
          let least = f.least s.arcs short in
          let near = drive-near g network u s.arcs v t short in
          let few = s.few in
          omega (arith, least, near, few)
