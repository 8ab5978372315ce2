-- A least low drive is never far: no rank is above the limit of nodes.
use Rattle.std.proofs.Common.{◌≤◌, ◌<◌, ◌+◌, ◌*◌, ℕ, List, [], ◌∷◌, arith, min}
use Rattle.std.proofs.lemmas.Option.{slice_get_within}
use Rattle.cu_model.specs.declared.limits.TheConstants.{MAX_NODES, MAX_UNTIL}
use Rattle.cu_model.specs.Networks.{NetworkValue, IsNetwork}
use Rattle.cu_model.specs.Orders.{OrderValue, IsOrder}
use Rattle.cu_interval.specs.Low.{IsLeastLowDrive, LeadsRanks, WalkBelow}
use Rattle.cu_interval.proofs.Near.{least_near}
use Rattle.cu_interval.proofs.Walks.{below-onward}

-- a rank from which a road leads is one of the order
leads_few : (g : NetworkValue) (o : OrderValue) → IsOrder o → (a u v : ℕ) → LeadsRanks g o a u v → u < MAX_NODES
leads_few g o k a u v l =
    let (p, q, leads, ranked, other) = l in
    let inside = slice_get_within o.node_at u p (k.placed p u ranked) in
    let few = k.few in
    omega (arith, inside, few)

start_few : (g : NetworkValue) (o : OrderValue) → IsOrder o → (m u : ℕ) (w : List ℕ) (v : ℕ) → WalkBelow g o m u w v → u < MAX_NODES
start_few g o k m u [] v h = absurd h
start_few g o k m u (a ∷ []) v h = leads_few g o k a u v h
start_few g o k m u (a ∷ b ∷ w) v h = let (x, l, lt, more) = h in leads_few g o k a u x l

-- no least low drive takes longer than a road of eight days for each node that there may be
pub least-near : (g : NetworkValue) (o : OrderValue) → IsNetwork g → IsOrder o → (u v t a : ℕ) → IsLeastLowDrive g o u v t a → a ≤ t + MAX_UNTIL * MAX_NODES
least-near g o n k u v t a f =
    let (w, l, e) = f.reached in
    let near = least_near g o n u v t a f in
    let start = start_few g o k (min u v) u w v l.1 in
    omega (arith, near, start)

-- and none arrives before it leaves
pub least-onward : (g : NetworkValue) (o : OrderValue) → IsNetwork g → (u v t a : ℕ) → IsLeastLowDrive g o u v t a → t ≤ a
least-onward g o n u v t a f =
    let (w, l, e) = f.reached in
    let on = below-onward g o n (min u v) u w v t l.1 in
    omega (arith, on, e)
