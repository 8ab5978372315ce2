-- The least drive below a middle is the value of a candidate before it.
use Rattle.std.proofs.Common.{◌≡◌, ◌≢◌, ◌≤◌, ◌<◌, ℕ, zero, suc, List, [], ◌∷◌, refl, sym, subst, arith, inl, inr, min}
use Rattle.std.proofs.Math.Nat.{min-eq_left, min-eq_right}
use Rattle.cu_model.specs.Networks.{NetworkValue, IsNetwork}
use Rattle.cu_model.specs.Orders.{OrderValue}
use Rattle.cu_model.specs.Roads.{drive, arc_value}
use Rattle.cu_model.proofs.RoadLaws.{drive-append}
use Rattle.cu_interval.specs.declared.ways.Way.{Way}
use Rattle.cu_interval.specs.declared.ways.Way.TheVariants.{Road, Via}
use Rattle.cu_interval.specs.Low.{WalkBelow, IsLowWalk, IsLeastLowDrive}
use Rattle.cu_interval.specs.FirstWays.{IsCandidate, Arrives}
use Rattle.cu_interval.proofs.Walks.{below-cut, below-fifo}

-- a way that comes before the middle m
abbrev pub GoesBefore : ℕ → Way → Type 0
GoesBefore m (Road a) = Unit {0}
GoesBefore m (Via k) = k < m

-- a candidate before the middle m that is no later than the second
pub record HasCandidate (g : NetworkValue) (o : OrderValue) (m u v t second : ℕ) : Type 0 where
  pub way : Way
  pub arrival : ℕ
  pub candidate : IsCandidate g o u v way
  pub value : Arrives g o u v t way arrival
  pub early : arrival ≤ second
  pub before : GoesBefore m way

weaker : (m : ℕ) (way : Way) → GoesBefore m way → GoesBefore (suc m) way
weaker m (Road a) h = tt
weaker m (Via k) h = omega (arith, h)

later : (g : NetworkValue) (o : OrderValue) (m u v t s : ℕ) → HasCandidate g o m u v t s → HasCandidate g o (suc m) u v t s
later g o m u v t s c = record { way = c.way; arrival = c.arrival; candidate = c.candidate; value = c.value; early = c.early; before = weaker m c.way c.before }

pub candidate_below : (g : NetworkValue) (o : OrderValue) → IsNetwork g → (u v : ℕ)
    → ((x y t : ℕ) (w : List ℕ) → min x y < min u v → IsLowWalk g o x w y → (a : ℕ) × IsLeastLowDrive g o x y t a)
    → (m : ℕ) → m ≤ u → m ≤ v → (w : List ℕ) (t : ℕ) → WalkBelow g o m u w v → HasCandidate g o m u v t (drive g w t)
candidate_below g o f u v has m mu mv [] t h = absurd h
candidate_below g o f u v has zero mu mv (a ∷ []) t h = record { way = Road a; arrival = arc_value g a t; candidate = h; value = refl; early = omega arith; before = tt }
candidate_below g o f u v has zero mu mv (a ∷ b ∷ w) t h = absurd (omega (arith, h.2))
candidate_below g o f u v has (suc m) mu mv (a ∷ w) t h =
    elim (below-cut g o f m u (a ∷ w) v h) [
      | inl stays ↦ later g o m u v t (drive g (a ∷ w) t) (candidate_below g o f u v has m (omega arith) (omega arith) (a ∷ w) t stays)
      | inr c ↦
          let low_u : min u m ≡ m = min-eq_right (omega arith) in
          let low_v : min m v ≡ m = min-eq_left (omega arith) in
          let below : m < min u v = omega arith in
          let u_not : u ≢ m = λ e. absurd (omega (arith, e)) in
          let v_not : m ≢ v = λ e. absurd (omega (arith, e)) in
          let walk_u : IsLowWalk g o u c.first m = (u_not, subst (λ (k : ℕ). WalkBelow g o k u c.first m) (sym low_u) c.to) in
          let walk_v : IsLowWalk g o m c.second v = (v_not, subst (λ (k : ℕ). WalkBelow g o k m c.second v) (sym low_v) c.on) in
          let one = has u m t c.first (rw low_u below) walk_u in
          let two = has m v one.0 c.second (rw low_v below) walk_v in
          let p = one.1.least c.first walk_u in
          let q = two.1.least c.second walk_v in
          let r = below-fifo g o f m m c.second v one.0 (drive g c.first t) c.on p in
          let e = drive-append g c.first c.second t in
          let n = c.no_later t in
          record {
            way = Via m;
            arrival = two.0;
            candidate = (omega arith, omega arith, (c.first, walk_u), (c.second, walk_v));
            value = (one.0, one.1, two.1);
            early = omega (arith, q, r, e, n);
            before = omega arith;
          }
    ]
