-- The leg of a second, and what waiting behind it may gain.
use Rattle.std.proofs.Common.{◌≡◌, ◌≤◌, ◌<◌, ◌+◌, ◌-◌, ℕ, suc, List, [], ◌∷◌, length, All, refl, arith, inl, inr}
use Rattle.std.proofs.lemmas.Bool.{cases_lt, le-ltb, lt-ltb}
use Rattle.cu_model.specs.declared.limits.TheConstants.{MAX_TRAVEL}
use Rattle.cu_model.specs.Days.{IsOnward, day}
use Rattle.cu_forms.specs.Near.{IsNear}
use Rattle.cu_wait.specs.declared.legs.Leg.{Leg}
use Rattle.cu_wait.specs.Legs.{IsLeg, Tile, arrival_in, bound_from, bounds_behind, day_least, hull_at, leg_arrival, leg_least}
use Rattle.cu_wait.proofs.LegLaws.{best_is, hull_is}
use Rattle.cu_wait.proofs.LineLaws.{line_limit}

-- no bound is above the end, nor before what it is behind
pub bound_low : (end : ℕ) (legs : List Leg) → bound_from end legs ≤ end
bound_low end [] = omega arith
bound_low end (leg ∷ legs) = let rest = bound_low end legs in omega (arith, rest)

pub least_onward : (leg : Leg) (second : ℕ) → leg.from ≤ second → second < leg.until → second ≤ leg_least leg second
least_onward leg second after before = let later = (best_is leg second after before).later in omega (arith, later)

pub bound_onward : (start end : ℕ) (legs : List Leg) → Tile start legs → day ≤ end → start ≤ bound_from end legs
bound_onward start end [] tile over = omega (arith, tile, over)
bound_onward start end (leg ∷ legs) tile over =
    let (from, some, rest) = tile in
    let here = least_onward leg leg.from (omega arith) (omega (arith, from, some)) in
    let behind = bound_onward leg.until end legs rest over in
    omega (arith, from, some, here, behind)

pub so_many : (end : ℕ) (legs : List Leg) → length (bounds_behind end legs) ≡ length legs
so_many end [] = refl
so_many end (leg ∷ legs) = let rest = so_many end legs in omega (arith, rest)

-- the first arrival of a day is within the limit
pub starts_soon : (legs : List Leg) → Tile 0 legs → All IsLeg legs → arrival_in legs 0 ≤ MAX_TRAVEL
starts_soon [] tile all = absurd (omega (arith, tile))
starts_soon (leg ∷ legs) tile all =
    let (from, some, rest) = tile in
    let sound = all 0 leg (omega arith) in
    let b = lt-ltb 0 leg.until some in
    let is : arrival_in (leg ∷ legs) 0 ≡ leg_arrival leg 0 = rw b refl in
    let line = line_limit leg.first leg.last (0 - leg.from) (leg.until - leg.from) MAX_TRAVEL (omega (arith, from, some)) (omega arith) sound.first sound.last in
    omega (arith, is, line)

-- so the bounds are small
pub end_low : (legs : List Leg) → Tile 0 legs → All IsLeg legs → day_least legs ≤ MAX_TRAVEL
end_low legs tile all = let soon = starts_soon legs tile all in let low = bound_low (arrival_in legs 0) legs in omega (arith, soon, low)

-- no arrival in legs is before its departure, nor past the limit
arrives_soon : (start : ℕ) (legs : List Leg) (second : ℕ) → Tile start legs → All IsLeg legs → start ≤ second → second < day
    → (second ≤ arrival_in legs second) × (arrival_in legs second ≤ second + MAX_TRAVEL)
arrives_soon start [] second tile all after before = absurd (omega (arith, tile, after, before))
arrives_soon start (leg ∷ legs) second tile all after before =
    let (from, some, rest) = tile in
    let sound = all 0 leg (omega arith) in
    elim (cases_lt second leg.until) [
      | inl here ↦
          let b = lt-ltb second leg.until here in
          let is : arrival_in (leg ∷ legs) second ≡ leg_arrival leg second = rw b refl in
          let line = line_limit leg.first leg.last (second - leg.from) (leg.until - leg.from) MAX_TRAVEL (omega (arith, from, some)) (omega (arith, here)) sound.first sound.last in
          (omega (arith, is), omega (arith, is, line))
      | inr past ↦
          let b = le-ltb second leg.until past in
          let is : arrival_in (leg ∷ legs) second ≡ arrival_in legs second = rw b refl in
          let more = arrives_soon leg.until legs second rest (λ k x h. all (suc k) x (omega (arith, h))) past before in
          (omega (arith, is, more.0), omega (arith, is, more.1))
    ]

pub hull_onward : (legs : List Leg) → Tile 0 legs → All IsLeg legs → IsOnward (hull_at legs)
hull_onward legs tile all second lt =
    let end = day + day_least legs in
    elim (hull_is 0 end legs tile second (omega arith) lt).reached [
      | inl is ↦ omega (arith, is, lt)
      | inr (t, le, before, is) ↦ let soon = arrives_soon 0 legs t tile all (omega arith) before in omega (arith, soon.0, is, le)
    ]

pub hull_near : (legs : List Leg) → Tile 0 legs → All IsLeg legs → IsNear (hull_at legs)
hull_near legs tile all second lt =
    let least = (hull_is 0 (day + day_least legs) legs tile second (omega arith) lt).least second (omega arith) lt in
    let soon = arrives_soon 0 legs second tile all (omega arith) lt in
    omega (arith, least, soon.1)
