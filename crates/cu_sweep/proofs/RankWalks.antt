-- Walks between nodes are those between their ranks.
use Rattle.std.proofs.Common.{◌≡◌, ◌<◌, ◌∙◌, ℕ, List, [], ◌∷◌, ◌++◌, Some, get_or, length, refl, sym, ap, subst, arith}
use Rattle.std.specs.Prelude.{slice_get}
use Rattle.std.proofs.lemmas.Option.{same_Some, slice_get-get_or}
use Rattle.cu_model.specs.Networks.{NetworkValue, IsNetwork}
use Rattle.cu_model.specs.Orders.{OrderValue, IsOrder}
use Rattle.cu_model.specs.Roads.{IsWalk, Leads}
use Rattle.cu_model.proofs.RoadLaws.{leads-links, links-head_below}
use Rattle.cu_interval.specs.Low.{WalkBelow}
use Rattle.cu_sweep.proofs.Peaks.{IsRankWalk}

-- each node has a rank
node_ranked : (o : OrderValue) (nodes : ℕ) → IsOrder o → length o.node_at ≡ nodes
    → (node : ℕ) → node < nodes → (rank : ℕ) × (slice_get o.rank_of node ≡ Some rank)
node_ranked o nodes f long node lt =
    let same = f.same in
    (get_or o.rank_of node 0, slice_get-get_or o.rank_of node 0 (omega (arith, lt, long, same)))

-- a walk between nodes is one between their ranks
pub ranks_of_walk : (g : NetworkValue) (o : OrderValue) → IsNetwork g → IsOrder o → length o.node_at ≡ g.nodes
    → (from to u : ℕ) (walk : List ℕ) (v : ℕ)
    → slice_get o.node_at from ≡ Some u → slice_get o.node_at to ≡ Some v → IsWalk g u walk v → IsRankWalk g o from walk to
ranks_of_walk g o n f long from to u [] v start stop h =
    same_Some from to (sym (f.ranked from u start) ∙ ap (slice_get o.rank_of) h ∙ f.ranked to v stop)
ranks_of_walk g o n f long from to u (a ∷ walk) v start stop h =
    let (x, l, more) = h in
    let below : x < g.nodes = links-head_below g n a u x (leads-links g a u x l) in
    let (rank, is) = node_ranked o g.nodes f long x below in
    let later = ranks_of_walk g o n f long rank to x walk v (f.placed x rank is) stop more in
    (rank, (u, x, l, f.ranked from u start, is), later)

-- a walk between ranks is one between their nodes
pub walk_of_ranks : (g : NetworkValue) (o : OrderValue) → IsOrder o → (from to u : ℕ) (walk : List ℕ) (v : ℕ)
    → slice_get o.node_at from ≡ Some u → slice_get o.node_at to ≡ Some v → IsRankWalk g o from walk to → IsWalk g u walk v
walk_of_ranks g o f from to u [] v start stop h = same_Some u v (sym start ∙ ap (slice_get o.node_at) h ∙ stop)
walk_of_ranks g o f from to u (a ∷ walk) v start stop h =
    let (rank, j, more) = h in
    let (tail, x, l, tail_is, is) = j in
    let same : tail ≡ u = same_Some tail u (sym (f.placed tail from tail_is) ∙ start) in
    (x, subst (λ (k : ℕ). Leads g a k x) same l, walk_of_ranks g o f rank to x walk v (f.placed x rank is) stop more)

-- two walks, one after the other
pub ranks_append : (g : NetworkValue) (o : OrderValue) (u x v : ℕ) (first second : List ℕ)
    → IsRankWalk g o u first x → IsRankWalk g o x second v → IsRankWalk g o u (first ++ second) v
ranks_append g o u x v [] second f s = subst (λ (y : ℕ). IsRankWalk g o y second v) (sym f) s
ranks_append g o u x v (a ∷ first) second f s =
    let (y, j, more) = f in
    (y, j, ranks_append g o y x v first second more s)

-- a walk below a bound is a walk
pub below_walk : (g : NetworkValue) (o : OrderValue) (m u : ℕ) (walk : List ℕ) (v : ℕ)
    → WalkBelow g o m u walk v → IsRankWalk g o u walk v
below_walk g o m u [] v h = absurd h
below_walk g o m u (a ∷ []) v h = (v, h, refl)
below_walk g o m u (a ∷ b ∷ walk) v h =
    let (x, j, lt, more) = h in
    (x, j, below_walk g o m x (b ∷ walk) v more)
