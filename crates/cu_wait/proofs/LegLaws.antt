-- Legs of a day: the least arrivals from each second on.
use Rattle.std.proofs.Common.{◌≡◌, ◌≤◌, ◌<◌, ◌+◌, ◌-◌, ◌∙◌, ◌⊎◌, ℕ, List, [], ◌∷◌, Bool, true, false, min, refl, sym, subst, ap, arith, inl, inr}
use Rattle.std.proofs.lemmas.Bool.{cases_lt, leb-true, leb-false, lt-ltb, le-ltb}
use Rattle.cu_model.specs.Days.{day}
use Rattle.cu_wait.specs.declared.legs.Leg.{Leg}
use Rattle.cu_wait.specs.Legs.{Tile, arrival_in, best_by, best_from, bound_from, falls, hull_in, leg_arrival, leg_least}
use Rattle.cu_wait.proofs.LineLaws.{line_falls, line_rises}

-- a second of the leg, not before this one, at which nobody who leaves then or later in the leg arrives earlier
pub record IsBest (leg : Leg) (second best : ℕ) : Type 0 where
  pub later : second ≤ best
  pub inside : best < leg.until
  pub least : (t : ℕ) → second ≤ t → t < leg.until → leg_arrival leg best ≤ leg_arrival leg t

best_of : (falling : Bool) (leg : Leg) (second : ℕ) → falls leg ≡ falling → leg.from ≤ second → second < leg.until → IsBest leg second (best_by falling leg second)
best_of true leg second e after before = record {
  later = omega (arith, before);
  inside = omega (arith, before);
  least = λ t le lt.
      let fast = leb-true (leg.last + (leg.until - leg.from)) leg.first e in
      let h = line_falls leg.first leg.last (t - leg.from) ((leg.until - 1) - leg.from) (leg.until - leg.from) (omega (arith, after, before)) fast (omega (arith, lt)) (omega arith) in
      omega (arith, h, after, le, lt);
}
best_of false leg second e after before = record {
  later = omega arith;
  inside = before;
  least = λ t le lt.
      let slow = leb-false (leg.last + (leg.until - leg.from)) leg.first e in
      let h = line_rises leg.first leg.last (second - leg.from) (t - leg.from) (leg.until - leg.from) (omega (arith, after, before)) (omega (arith, slow)) (omega (arith, le)) (omega (arith, lt)) in
      omega (arith, h, after, le, lt);
}

pub best_is : (leg : Leg) (second : ℕ) → leg.from ≤ second → second < leg.until → IsBest leg second (best_from leg second)
best_is leg second after before = best_of (falls leg) leg second refl after before

-- the least of these arrivals from a second of the day on, or the end where that is less
pub record IsLeastOr (f : ℕ → ℕ) (second end value : ℕ) : Type 0 where
  pub within : value ≤ end
  pub least : (t : ℕ) → second ≤ t → t < day → value ≤ f t
  pub reached : (value ≡ end) ⊎ ((t : ℕ) × (second ≤ t) × (t < day) × (f t ≡ value))

pub tile_within : (start : ℕ) (legs : List Leg) → Tile start legs → start ≤ day
tile_within start [] t = omega (arith, t)
tile_within start (leg ∷ legs) (from, some, rest) = let h = tile_within leg.until legs rest in omega (arith, some, h)

pub in_first : (leg : Leg) (legs : List Leg) (t : ℕ) → t < leg.until → arrival_in (leg ∷ legs) t ≡ leg_arrival leg t
in_first leg legs t lt = let b = lt-ltb t leg.until lt in rw b refl

pub in_rest : (leg : Leg) (legs : List Leg) (t : ℕ) → leg.until ≤ t → arrival_in (leg ∷ legs) t ≡ arrival_in legs t
in_rest leg legs t le = let b = le-ltb t leg.until le in rw b refl

-- the best of the first leg and the least of the rest
least_joined : (leg : Leg) (legs : List Leg) (end bound second : ℕ) → leg.from ≤ second → second < leg.until → leg.until ≤ day
    → IsLeastOr (arrival_in legs) leg.until end bound → IsLeastOr (arrival_in (leg ∷ legs)) second end (min (leg_least leg second) bound)
least_joined leg legs end bound second after before inside rest =
    let best = best_is leg second after before in
    let w = rest.within in
    record {
      within = omega (arith, w);
      least = λ t le lt. elim (cases_lt t leg.until) [
        | inl here ↦ let h = best.least t le here in let e = in_first leg legs t here in omega (arith, h, e)
        | inr past ↦ let h = rest.least t past lt in let e = in_rest leg legs t past in omega (arith, h, e)
      ];
      reached = elim (cases_lt (leg_least leg second) bound) [
        | inl less ↦ inr (best_from leg second, best.later, (let i = best.inside in omega (arith, i, inside)), (let e = in_first leg legs (best_from leg second) best.inside in omega (arith, e, less)))
        | inr more ↦ elim rest.reached [
          | inl end_is ↦ inl (omega (arith, more, end_is))
          | inr (t, le, lt, is) ↦ inr (t, omega (arith, before, le), lt, (let e = in_rest leg legs t le in omega (arith, e, is, more)))
        ]
      ];
    }

pub bound_is : (start end : ℕ) (legs : List Leg) → Tile start legs → IsLeastOr (arrival_in legs) start end (bound_from end legs)
bound_is start end [] tile = record {
  within = omega arith;
  least = λ t le lt. absurd (omega (arith, tile, le, lt));
  reached = inl refl;
}
bound_is start end (leg ∷ legs) (from, some, rest) =
    let inside = tile_within leg.until legs rest in
    subst (λ (s : ℕ). IsLeastOr (arrival_in (leg ∷ legs)) s end (bound_from end (leg ∷ legs))) from
    (least_joined leg legs end (bound_from end legs) leg.from (omega arith) (omega (arith, from, some)) inside (bound_is leg.until end legs rest))

pub hull_is : (start end : ℕ) (legs : List Leg) → Tile start legs → (second : ℕ) → start ≤ second → second < day
    → IsLeastOr (arrival_in legs) second end (hull_in end legs second)
hull_is start end [] tile second after before = absurd (omega (arith, tile, after, before))
hull_is start end (leg ∷ legs) (from, some, rest) second after before =
    let inside = tile_within leg.until legs rest in
    elim (cases_lt second leg.until) [
      | inl here ↦
          let b = lt-ltb second leg.until here in
          let is : hull_in end (leg ∷ legs) second ≡ min (leg_least leg second) (bound_from end legs) = rw b refl in
          subst (IsLeastOr (arrival_in (leg ∷ legs)) second end) (sym is)
          (least_joined leg legs end (bound_from end legs) second (omega (arith, from, after)) here inside (bound_is leg.until end legs rest))
      | inr past ↦
          let b = le-ltb second leg.until past in
          let is : hull_in end (leg ∷ legs) second ≡ hull_in end legs second = rw b refl in
          let h = hull_is leg.until end legs rest second past before in
          let w = h.within in
          subst (IsLeastOr (arrival_in (leg ∷ legs)) second end) (sym is) (record {
            within = w;
            least = λ t le lt. let l = h.least t le lt in let e = in_rest leg legs t (omega (arith, past, le)) in omega (arith, l, e);
            reached = elim h.reached [
              | inl end_is ↦ inl end_is
              | inr (t, le, lt, at) ↦ inr (t, le, lt, (let e = in_rest leg legs t (omega (arith, past, le)) in e ∙ at))
            ];
          })
    ]

-- in a leg that doesn't fall nobody who leaves later arrives earlier
pub rising_above : (leg : Leg) (second t : ℕ) → falls leg ≡ false → leg.from ≤ second → second ≤ t → t < leg.until → leg_arrival leg second ≤ leg_least leg t
rising_above leg second t rising after le lt =
    let same : leg_least leg t ≡ leg_arrival leg t = ap (λ (b : Bool). leg_arrival leg (best_by b leg t)) rising in
    let here = (best_of false leg second rising after (omega (arith, le, lt))).least t le lt in
    omega (arith, same, here)
