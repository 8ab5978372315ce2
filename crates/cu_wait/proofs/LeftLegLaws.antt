-- The best second of a leg, and of one leg behind another.
use Rattle.std.proofs.Common.{◌≡◌, ◌≤◌, ◌<◌, ◌+◌, ◌-◌, ◌∙◌, ℕ, zero, suc, List, [], ◌∷◌, Option, Some, None, All, true, false, length, refl, sym, subst, ap, arith, inl, inr, leb, get_or}
use Rattle.std.specs.Prelude.{slice_get}
use Rattle.std.specs.List.Sorted.{IsPartitionPoint}
use Rattle.std.proofs.lemmas.Bool.{cases_lt}
use Rattle.std.proofs.lemmas.Bool.Decides.{nat_tests}
use Rattle.std.proofs.lemmas.Option.{get_or_from_slice_get, slice_get_within}
use Rattle.cu_model.specs.Days.{day}
use Rattle.cu_model.specs.declared.limits.TheConstants.{MAX_TRAVEL}
use Rattle.cu_model.proofs.Begun.{begun_point}
use Rattle.cu_wait.specs.declared.left.Best.{Best}
use Rattle.cu_wait.specs.declared.legs.Leg.{Leg}
use Rattle.cu_wait.specs.declared.points.Point.{Point}
use Rattle.cu_wait.specs.Legs.{IsLeg, Tile, arrival_in, leg_arrival, leg_behind, legs_from, legs_of}
use Rattle.cu_wait.specs.Measured.{IsMeasured}
use Rattle.cu_wait.specs.Steps.LeftLegs.{IsBestUntil, IsLegAt, begins, second_by}
use Rattle.cu_wait.proofs.HullLaws.{legs_are}
use Rattle.cu_wait.proofs.LegLaws.{in_first, in_rest}
use Rattle.cu_wait.proofs.LineLaws.{line_falls, line_limit, line_rises}
use Rattle.cu_wait.proofs.PointLaws.{legs_sound}

-- in a leg whose travel times fall by a second a second or more, nobody who leaves later arrives later
pub leg_falls : (leg : Leg) (second t : ℕ) → leg.last + (leg.until - leg.from) ≤ leg.first → leg.from ≤ second → second ≤ t → t < leg.until
    → leg_arrival leg t ≤ leg_arrival leg second
leg_falls leg second t fast after le lt =
    let h = line_falls leg.first leg.last (second - leg.from) (t - leg.from) (leg.until - leg.from) (omega (arith, after, le, lt)) fast (omega (arith, le)) (omega (arith, lt)) in
    omega (arith, h, after, le)

-- in any other nobody who leaves later arrives earlier
pub leg_rises : (leg : Leg) (second t : ℕ) → leg.first ≤ leg.last + (leg.until - leg.from) → leg.from ≤ second → second ≤ t → t < leg.until
    → leg_arrival leg second ≤ leg_arrival leg t
leg_rises leg second t slow after le lt =
    let h = line_rises leg.first leg.last (second - leg.from) (t - leg.from) (leg.until - leg.from) (omega (arith, after, le, lt)) slow (omega (arith, le)) (omega (arith, lt)) in
    omega (arith, h, after, le)

-- no arrival is past the limit
pub leg_near : (leg : Leg) (second : ℕ) → IsLeg leg → leg.from ≤ second → second < leg.until → leg_arrival leg second ≤ second + MAX_TRAVEL
leg_near leg second sound after before =
    let some = sound.some in
    let h = line_limit leg.first leg.last (second - leg.from) (leg.until - leg.from) MAX_TRAVEL (omega (arith, some)) (omega (arith, before)) sound.first sound.last in
    omega (arith, h)

-- where arrivals never fall the first second is best
pub best_rising : (leg : Leg) (second : ℕ) → leg.first ≤ leg.last + (leg.until - leg.from) → leg.from ≤ second → second < leg.until
    → IsBestUntil (leg_arrival leg) second leg.until (record { second = second; arrival = leg_arrival leg second })
best_rising leg second slow after before = record {
  later = omega arith;
  before = before;
  arrival = refl;
  least = λ t le lt. leg_rises leg second t slow after le lt;
  first = λ t le lt. absurd (omega (arith, le, lt));
}

-- what is said of one function is so of another that is the same there
pub best_alike : (f g : ℕ → ℕ) (second until : ℕ) (best : Best) → ((s : ℕ) → second ≤ s → s < until → g s ≡ f s) → IsBestUntil f second until best → IsBestUntil g second until best
best_alike f g second until best same is =
    let before = is.before in
    record {
      later = is.later;
      before = before;
      arrival = same best.second is.later before ∙ is.arrival;
      least = λ s le lt. let low = is.least s le lt in let e = same s le lt in omega (arith, low, e);
      first = λ s le lt. let late = is.first s le lt in let e = same s le (omega (arith, lt, before)) in omega (arith, late, e);
    }

-- whoever arrives before a second isn't beaten by who leaves from then on
pub best_stays : (f : ℕ → ℕ) (second until past : ℕ) (best : Best) → ((s : ℕ) → s ≤ f s) → best.arrival ≤ until → until ≤ past
    → IsBestUntil f second until best → IsBestUntil f second past best
best_stays f second until past best onward early more is =
    let before = is.before in
    record {
      later = is.later;
      before = omega (arith, before, more);
      arrival = is.arrival;
      least = λ s le lt. elim (cases_lt s until) [
        | inl here ↦ is.least s le here
        | inr behind ↦ let on = onward s in omega (arith, on, behind, early)
      ];
      first = is.first;
    }

module _ (f : ℕ → ℕ) (second later : ℕ) (leg : Leg) (best found : Best)
    (same : (s : ℕ) → leg.from ≤ s → s < leg.until → f (later + s) ≡ later + leg_arrival leg s)
    (is : IsBestUntil f second (later + leg.from) best) (in_leg : IsBestUntil (leg_arrival leg) leg.from leg.until found) where
  in_this : (s : ℕ) → later + leg.from ≤ s → s < later + leg.until → later + found.arrival ≤ f s
  in_this s le lt =
      let e : later + (s - later) ≡ s = omega (arith, le) in
      let at = subst (λ (x : ℕ). f x ≡ later + leg_arrival leg (s - later)) e (same (s - later) (omega (arith, le)) (omega (arith, le, lt))) in
      let low = in_leg.least (s - later) (omega (arith, le)) (omega (arith, le, lt)) in
      omega (arith, at, low)

  -- a leg in which nobody arrives earlier changes nothing
  pub best_kept : leg.from < leg.until → best.arrival ≤ later + found.arrival → IsBestUntil f second (later + leg.until) best
  best_kept some worse =
      let before = is.before in
      record {
        later = is.later;
        before = omega (arith, before, some);
        arrival = is.arrival;
        least = λ s le lt. elim (cases_lt s (later + leg.from)) [
          | inl here ↦ is.least s le here
          | inr behind ↦ let low = in_this s behind lt in omega (arith, low, worse)
        ];
        first = is.first;
      }

  -- and who arrives earlier in a leg is the best
  pub best_taken : later + found.arrival < best.arrival → IsBestUntil f second (later + leg.until) (record { second = later + found.second; arrival = later + found.arrival })
  best_taken better =
      let start = is.later in
      let before = is.before in
      let own = in_leg.later in
      let inside = in_leg.before in
      let at = in_leg.arrival in
      record {
        later = omega (arith, start, before, own);
        before = omega (arith, inside);
        arrival = same found.second own inside ∙ ap (λ (x : ℕ). later + x) at;
        least = λ s le lt. elim (cases_lt s (later + leg.from)) [
          | inl here ↦ let low = is.least s le here in omega (arith, low, better)
          | inr behind ↦ in_this s behind lt
        ];
        first = λ s le lt. elim (cases_lt s (later + leg.from)) [
          | inl here ↦ let low = is.least s le here in omega (arith, low, better)
          | inr behind ↦
              let e : later + (s - later) ≡ s = omega (arith, behind) in
              let there = subst (λ (x : ℕ). f x ≡ later + leg_arrival leg (s - later)) e (same (s - later) (omega (arith, behind)) (omega (arith, behind, lt, inside))) in
              let late = in_leg.first (s - later) (omega (arith, behind)) (omega (arith, behind, lt)) in
              omega (arith, there, late)
        ];
      }

-- the travel time of a point, or the first one again at the day's end
abbrev pub travel_by_next : ℕ → Option Point → ℕ
travel_by_next first None = first
travel_by_next first (Some point) = point.travel

legs_get : (first : ℕ) (head : Point) (points : List Point) (index : ℕ) (point : Point) → slice_get (head ∷ points) index ≡ Some point
    → slice_get (legs_from first head points) index
    ≡ Some (leg_behind point (second_by (slice_get (head ∷ points) (suc index))) (travel_by_next first (slice_get (head ∷ points) (suc index))))
legs_get first head [] zero point is = let e : head ≡ point = cc is in ap (λ (p : Point). Some (leg_behind p day first)) e
legs_get first head [] (suc index) point is = absurd (cc is)
legs_get first head (next ∷ points) zero point is = let e : head ≡ point = cc is in ap (λ (p : Point). Some (leg_behind p next.second next.travel)) e
legs_get first head (next ∷ points) (suc index) point is = legs_get first next points index point is

-- each leg of a day says when one arrives in it
arrives_in : (start : ℕ) (legs : List Leg) (index : ℕ) (leg : Leg) → Tile start legs → slice_get legs index ≡ Some leg
    → (start ≤ leg.from) × ((s : ℕ) → leg.from ≤ s → s < leg.until → arrival_in legs s ≡ leg_arrival leg s)
arrives_in start [] index leg tile is = absurd (cc is)
arrives_in start (head ∷ legs) zero leg tile is =
    let e : head ≡ leg = cc is in
    let from = tile.0 in
    let claim : (start ≤ head.from) × ((s : ℕ) → head.from ≤ s → s < head.until → arrival_in (head ∷ legs) s ≡ leg_arrival head s) =
    (omega (arith, from), λ s le lt. in_first head legs s lt) in
    subst (λ (l : Leg). (start ≤ l.from) × ((s : ℕ) → l.from ≤ s → s < l.until → arrival_in (head ∷ legs) s ≡ leg_arrival l s)) e claim
arrives_in start (head ∷ legs) (suc index) leg tile is =
    let (after, rest) = arrives_in head.until legs index leg tile.2 is in
    let some = tile.1 in
    (omega (arith, some, after), λ s le lt. in_rest head legs s (omega (arith, after, le)) ∙ rest s le lt)

sound_at : (legs : List Leg) (index : ℕ) (leg : Leg) → All IsLeg legs → slice_get legs index ≡ Some leg → IsLeg leg
sound_at legs index leg all is =
    let inside = slice_get_within legs index leg is in
    subst IsLeg (get_or_from_slice_get legs index leg leg is) (all index leg inside)

leg_is_at : (points : List Point) (index : ℕ) (leg : Leg) (point : Point) → IsMeasured points → slice_get points index ≡ Some point
    → slice_get (legs_of points) index ≡ Some leg → leg.from ≡ point.second → leg.until ≡ begins points (index + 1) → IsLegAt points index leg
leg_is_at points index leg point m at is from until =
    let (tile, raw) = legs_are points m in
    let sound = sound_at (legs_of points) index leg (legs_sound points m) is in
    let inside = sound.inside in
    let (after, arrives) = arrives_in 0 (legs_of points) index leg tile is in
    record {
      sound = sound;
      from = from ∙ sym (ap second_by at);
      until = until;
      arrives = λ s le lt. sym (raw s (omega (arith, lt, inside))) ∙ arrives s le lt;
    }

-- the leg from a point to the next
pub leg_to_next : (points : List Point) (index : ℕ) (point next : Point) → IsMeasured points → slice_get points index ≡ Some point → slice_get points (index + 1) ≡ Some next
    → IsLegAt points index (leg_behind point next.second next.travel)
leg_to_next [] index point next m at behind = absurd (cc at)
leg_to_next (head ∷ points) index point next m at behind =
    let e : index + 1 ≡ suc index = omega arith in
    let there : slice_get (head ∷ points) (suc index) ≡ Some next = subst (λ (i : ℕ). slice_get (head ∷ points) i ≡ Some next) e behind in
    let found = legs_get head.travel head points index point at in
    leg_is_at (head ∷ points) index (leg_behind point next.second next.travel) point m at
    (found ∙ ap (λ (o : Option Point). Some (leg_behind point (second_by o) (travel_by_next head.travel o))) there) refl (sym (ap second_by behind))

-- and the last one, to the day's end
pub leg_to_end : (points : List Point) (index : ℕ) (point d : Point) → IsMeasured points → slice_get points index ≡ Some point → slice_get points (index + 1) ≡ None
    → IsLegAt points index (leg_behind point day (get_or points 0 d).travel)
leg_to_end [] index point d m at behind = absurd (cc at)
leg_to_end (head ∷ points) index point d m at behind =
    let e : index + 1 ≡ suc index = omega arith in
    let there : slice_get (head ∷ points) (suc index) ≡ None = subst (λ (i : ℕ). slice_get (head ∷ points) i ≡ None) e behind in
    let found = legs_get head.travel head points index point at in
    leg_is_at (head ∷ points) index (leg_behind point day head.travel) point m at
    (found ∙ ap (λ (o : Option Point). Some (leg_behind point (second_by o) (travel_by_next head.travel o))) there) refl (sym (ap second_by behind))

-- the point behind which a second of the day is
pub point_at : (points : List Point) (second count : ℕ) → IsMeasured points → second < day
    → IsPartitionPoint (λ (p : Point). leb p.second second ≡ true) (λ (p : Point). leb p.second second ≡ false) points count → count ≤ length points
    → (0 < count) × (begins points (count - 1) ≤ second) × (second < begins points ((count - 1) + 1))
point_at points second count m in_day point few =
    let (some, last) = begun_point (λ (p : Point). p.second) points second count m.starts point few in
    let (begun, is, low) = last.begun in
    let e : (count - 1) + 1 ≡ count = omega (arith, some) in (
      some,
      subst (λ (o : Option Point). second_by o ≤ second) (sym is) low,
      subst (λ (i : ℕ). second < begins points i) (sym e) (behind (slice_get points count) refl),
    )
  where
    gt : (a b : ℕ) → leb a b ≡ false → b < a
    gt a b h = grind (arith, nat_tests)

    behind : (o : Option Point) → slice_get points count ≡ o → second < second_by o
    behind None is = in_day
    behind (Some next) is =
        let inside = slice_get_within points count next is in
        let late = point.1 count next (omega arith) inside in
        let same = get_or_from_slice_get points count next next is in
        gt next.second second (subst (λ (p : Point). leb p.second second ≡ false) same late)

-- past the last point the day ends
pub begins_at_end : (points : List Point) → begins points (length points) ≡ day
begins_at_end [] = refl
begins_at_end (point ∷ points) = begins_at_end points

-- and the first is at the day's first second
pub first_begins : (points : List Point) → IsMeasured points → begins points 0 ≡ 0
first_begins [] m = absurd (let s = m.starts in cc s)
first_begins (point ∷ points) m = let s = m.starts in cc s

-- past a list's end nothing is there
pub none_past : {X : Type 0} (xs : List X) (i : ℕ) → length xs ≤ i → slice_get xs i ≡ None
none_past [] i le = refl
none_past (x ∷ xs) zero le = absurd (omega (arith, le))
none_past (x ∷ xs) (suc i) le = none_past xs i (omega (arith, le))
