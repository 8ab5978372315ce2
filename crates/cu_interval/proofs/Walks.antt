-- Low walks: joined, and allowed a higher bound.
use Rattle.std.proofs.Common.{◌≤◌, ◌<◌, ℕ, suc, List, [], ◌∷◌, ◌++◌, length, subst, arith, inl, inr, ◌⊎◌}
use Rattle.std.proofs.lemmas.Bool.{cases_eq}
use Rattle.cu_model.specs.Networks.{NetworkValue, IsNetwork}
use Rattle.cu_model.specs.Orders.{OrderValue}
use Rattle.cu_model.specs.Roads.{arc_value, drive}
use Rattle.cu_model.proofs.RoadLaws.{arc_value-onward, arc_value-fifo, drive-append, leads_within}
use Rattle.cu_interval.specs.Low.{IsLowWalk, LeadsRanks, WalkBelow}

module _ (g : NetworkValue) (o : OrderValue) (n : IsNetwork g) where
  -- a road that may be driven arrives no earlier than it leaves
  pub leads-onward : (a u v t : ℕ) → LeadsRanks g o a u v → t ≤ arc_value g a t
  leads-onward a u v t l = arc_value-onward g n a (leads_within g a l.0 l.1 l.2) t

  -- leaving later it never arrives earlier
  pub leads-fifo : (a u v t s : ℕ) → LeadsRanks g o a u v → t ≤ s → arc_value g a t ≤ arc_value g a s
  leads-fifo a u v t s l le = arc_value-fifo g n a (leads_within g a l.0 l.1 l.2) t s le

  -- a walk below a bound arrives no earlier than it starts
  pub below-onward : (m u : ℕ) (w : List ℕ) (v t : ℕ) → WalkBelow g o m u w v → t ≤ drive g w t
  below-onward m u [] v t h = absurd h
  below-onward m u (a ∷ []) v t h = leads-onward a u v t h
  below-onward m u (a ∷ b ∷ w) v t h =
      let (x, j, lt, more) = h in
      let p = leads-onward a u x t j in
      let q = below-onward m x (b ∷ w) v (arc_value g a t) more in
      omega (arith, p, q)

  -- leaving later never arrives earlier
  pub below-fifo : (m u : ℕ) (w : List ℕ) (v t s : ℕ) → WalkBelow g o m u w v → t ≤ s → drive g w t ≤ drive g w s
  below-fifo m u [] v t s h le = absurd h
  below-fifo m u (a ∷ []) v t s h le = leads-fifo a u v t s h le
  below-fifo m u (a ∷ b ∷ w) v t s h le =
      let (x, j, lt, more) = h in
      below-fifo m x (b ∷ w) v (arc_value g a t) (arc_value g a s) more (leads-fifo a u x t s j le)

module _ (g : NetworkValue) (o : OrderValue) where
  -- a higher bound allows more
  pub below-more : (m n u : ℕ) (w : List ℕ) (v : ℕ) → m ≤ n → WalkBelow g o m u w v → WalkBelow g o n u w v
  below-more m n u [] v le h = h
  below-more m n u (a ∷ []) v le h = h
  below-more m n u (a ∷ b ∷ w) v le h =
      let (x, j, lt, more) = h in (x, j, omega (arith, lt, le), below-more m n x (b ∷ w) v le more)

  -- two walks that meet at a rank below the bound
  pub below-append : (m u x : ℕ) (v w : List ℕ) (y : ℕ) → x < m → WalkBelow g o m u v x → WalkBelow g o m x w y → WalkBelow g o m u (v ++ w) y
  below-append m u x [] w y lt h k = absurd h
  below-append m u x (a ∷ []) [] y lt h k = absurd k
  below-append m u x (a ∷ []) (b ∷ w) y lt h k = (x, h, lt, k)
  below-append m u x (a ∷ b ∷ v) w y lt h k =
      let (z, j, low, more) = h in (z, j, low, below-append m z x (b ∷ v) w y lt more k)

  -- a low walk has a road
  pub low_some : (u : ℕ) (walk : List ℕ) (v : ℕ) → IsLowWalk g o u walk v → 0 < length walk
  low_some u [] v l = absurd l.1
  low_some u (a ∷ walk) v l = omega arith

  -- a walk with a road before it, to a rank below the bound
  pub low_step : (m x a u : ℕ) (w : List ℕ) (v : ℕ) → x < m → LeadsRanks g o a u x → WalkBelow g o m x w v → WalkBelow g o m u (a ∷ w) v
  low_step m x a u [] v lt j h = absurd h
  low_step m x a u (b ∷ w) v lt j h = (x, j, lt, h)

-- a walk, cut at the bound: it stays below it, or it goes to it and on from it and is no later
pub record CutAt (g : NetworkValue) (o : OrderValue) (m u : ℕ) (w : List ℕ) (v : ℕ) : Type 0 where
  pub first : List ℕ
  pub second : List ℕ
  pub to : WalkBelow g o m u first m
  pub on : WalkBelow g o m m second v
  pub no_later : (t : ℕ) → drive g (first ++ second) t ≤ drive g w t

pub below-cut : (g : NetworkValue) (o : OrderValue) → IsNetwork g → (m u : ℕ) (w : List ℕ) (v : ℕ) → WalkBelow g o (suc m) u w v → WalkBelow g o m u w v ⊎ CutAt g o m u w v
below-cut g o f m u [] v h = absurd h
below-cut g o f m u (a ∷ []) v h = inl h
below-cut g o f m u (a ∷ b ∷ w) v h =
    let (x, j, lt, more) = h in
    elim (cases_eq x m) [
      | inl same ↦
          let here : WalkBelow g o m u (a ∷ []) m = subst (λ (y : ℕ). LeadsRanks g o a u y) same j in
          let rest : WalkBelow g o (suc m) m (b ∷ w) v = subst (λ (y : ℕ). WalkBelow g o (suc m) y (b ∷ w) v) same more in
          elim (below-cut g o f m m (b ∷ w) v rest) [
            | inl stays ↦ inr (record { first = a ∷ []; second = b ∷ w; to = here; on = stays; no_later = λ t. omega arith })
            | inr c ↦ inr (record {
              first = a ∷ [];
              second = c.second;
              to = here;
              on = c.on;
              no_later = λ t.
                  let s = arc_value g a t in
                  let loop = below-onward g o f m m c.first m s c.to in
                  let rise = below-fifo g o f m m c.second v s (drive g c.first s) c.on loop in
                  let both = c.no_later s in
                  let joined = drive-append g c.first c.second s in
                  omega (arith, rise, both, joined);
            })
          ]
      | inr other ↦
          elim (below-cut g o f m x (b ∷ w) v more) [
            | inl stays ↦ inl (x, j, omega (arith, lt, other), stays)
            | inr c ↦ inr (record {
              first = a ∷ c.first;
              second = c.second;
              to = low_step g o m x a u c.first m (omega (arith, lt, other)) j c.to;
              on = c.on;
              no_later = λ t. c.no_later (arc_value g a t);
            })
          ]
    ]
