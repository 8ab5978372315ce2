-- How late a low walk may arrive: no least drive takes more than eight days for each rank below the bound, and eight more.
use Rattle.std.proofs.Common.{◌≤◌, ◌+◌, ◌*◌, ℕ, List, [], ◌∷◌, length, min, arith}
use Rattle.cu_model.specs.declared.limits.TheConstants.{MAX_UNTIL}
use Rattle.cu_model.specs.Networks.{NetworkValue, IsNetwork}
use Rattle.cu_model.specs.Orders.{OrderValue}
use Rattle.cu_model.specs.Roads.{arc_value, drive}
use Rattle.cu_model.proofs.RoadLaws.{arc_value-near, leads_within}
use Rattle.cu_interval.specs.Low.{LeadsRanks, WalkBelow, IsLeastLowDrive}
use Rattle.cu_interval.proofs.Simple.{simple, through_below}

module _ (g : NetworkValue) (o : OrderValue) (n : IsNetwork g) where
  leads-near : (a u v t : ℕ) → LeadsRanks g o a u v → arc_value g a t ≤ t + MAX_UNTIL
  leads-near a u v t l = arc_value-near g n a (leads_within g a l.0 l.1 l.2) t

  -- so many roads take at most eight days each
  pub below-near : (m u : ℕ) (w : List ℕ) (v t : ℕ) → WalkBelow g o m u w v → drive g w t ≤ t + MAX_UNTIL * length w
  below-near m u [] v t h = absurd h
  below-near m u (a ∷ []) v t h = let near = leads-near a u v t h in omega (arith, near)
  below-near m u (a ∷ b ∷ w) v t h =
      let (x, j, lt, more) = h in
      let here = leads-near a u x t j in
      let later = below-near m x (b ∷ w) v (arc_value g a t) more in
      omega (arith, here, later)

  -- a least low drive arrives within that time
  pub least_near : (u v t arrival : ℕ) → IsLeastLowDrive g o u v t arrival → arrival ≤ t + (min u v + 1) * MAX_UNTIL
  least_near u v t arrival f =
      let (w, l, e) = f.reached in
      let s = simple g o n (min u v) u w v l.1 in
      let below = through_below g o (min u v) u s.arcs s.inner v s.through in
      let least = f.least s.arcs (l.0, below) in
      let near = below-near (min u v) u s.arcs v t below in
      let few = s.few in
      omega (arith, least, near, few)
