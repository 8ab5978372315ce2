-- First ways, shown on small networks: a tie goes to the road with the lower number, and a middle is strictly earlier than a road.
use Rattle.std.proofs.Common.{◌≡◌, ◌≤◌, ◌<◌, ◌⊎◌, inl, inr, ℕ, List, [], ◌∷◌, Some, refl, arith, subst, zero, suc}
use Rattle.std.specs.Prelude.{slice_get}
use Rattle.cu_model.specs.Roads.{drive}
use Rattle.cu_interval.specs.declared.ways.Way.{Way}
use Rattle.cu_interval.specs.declared.ways.Way.TheVariants.{Road, Via}
use Rattle.cu_interval.specs.WayLists.{GoesFirst}
use Rattle.cu_interval.specs.Low.{LeadsRanks, IsLowWalk, IsLeastLowDrive}
use Rattle.cu_interval.specs.FirstWays.{IsCandidate, Arrives, IsFirstWay}
use Rattle.cu_interval.proofs.Examples.{three_built, two_built}

-- the loop leads to no other rank
no_loop : LeadsRanks two_built.network two_built.order 0 0 1 → ⊥
no_loop l =
    let (u, v, ((arc, at, t, h), drivable), r, q) = l in
    let same : arc ≡ record { tail = 0; head = 0; profile = 0 } = cc at in
    let head : v ≡ 0 = cc (same, h) in
    let rank : slice_get two_built.order.rank_of 0 ≡ Some 1 = subst (λ (n : ℕ). slice_get two_built.order.rank_of n ≡ Some 1) head q in
    let is : ◌≡◌ {A = ℕ} 0 1 = cc rank in
    omega (arith, is)

tie_among : (other : Way) (later : ℕ) → IsCandidate two_built.network two_built.order 0 1 other → Arrives two_built.network two_built.order 0 1 2010 other later
    → (2060 < later) ⊎ ((2060 ≡ later) × ((Road 1 ≡ other) ⊎ GoesFirst (Road 1) other))
tie_among (Road zero) later c a = absurd (no_loop c)
tie_among (Road (suc zero)) later c a = inr (a, inl refl)
tie_among (Road (suc (suc zero))) later c a = inr (a, inr (omega arith))
tie_among (Road (suc (suc (suc n)))) later c a = let (u, v, ((arc, at, t, h), drivable), r, q) = c in absurd (cc at)
tie_among (Via m) later c a = let low = c.0 in absurd (omega (arith, low))

tie : IsFirstWay two_built.network two_built.order 0 1 2010 (Road 1)
tie = record {
  candidate = (0, 1, ((record { tail = 0; head = 1; profile = 1 }, refl, refl, refl), refl), refl, refl);
  arrival = 2060;
  arrives = refl;
  first = tie_among;
}

-- the one low walk from rank 1 to rank 0 is road 0
to_middle : (w : List ℕ) → IsLowWalk three_built.network three_built.order 1 w 0 → 60 ≤ drive three_built.network w 0
to_middle [] l = absurd (l.1)
to_middle (zero ∷ []) l = omega arith
to_middle (suc zero ∷ []) l = omega arith
to_middle (suc (suc zero) ∷ []) l = omega arith
to_middle (suc (suc (suc a)) ∷ []) l = let (u, v, ((arc, at, t, h), drivable), r, q) = l.1 in absurd (cc at)
to_middle (a ∷ b ∷ w) l = let (x, j, lt, more) = l.1 in absurd (omega (arith, lt))

least_to_middle : IsLeastLowDrive three_built.network three_built.order 1 0 0 60
least_to_middle = record {
  reached = (0 ∷ [], ((λ e. omega (arith, e)), (0, 1, ((record { tail = 0; head = 1; profile = 0 }, refl, refl, refl), refl), refl, refl)), refl);
  least = to_middle;
}
