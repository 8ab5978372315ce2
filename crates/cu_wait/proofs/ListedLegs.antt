-- The legs of a day that are left, and what they allow.
use Rattle.std.proofs.Common.{◌≡◌, ◌≤◌, ◌<◌, ◌+◌, ◌-◌, ◌∙◌, ℕ, List, [], ◌∷◌, length, get_or, drop, min, refl, sym, subst, ap, arith}
use Rattle.std.proofs.lemmas.Bool.{le-ltb, lt-ltb}
use Rattle.std.proofs.lemmas.List.{drop_more}
use Rattle.cu_model.specs.Days.{day}
use Rattle.cu_wait.specs.declared.legs.Leg.{Leg}
use Rattle.cu_wait.specs.declared.stretches.Course.{Course}
use Rattle.cu_wait.specs.Legs.{Tile, bound_from, bounds_behind, day_least, hull_at, hull_in, leg_least}
use Rattle.cu_wait.specs.Steps.HullLegs.{IsHull}
use Rattle.cu_wait.specs.Steps.Listed.{course_value}
use Rattle.cu_wait.proofs.BoundLaws.{bound_low, bound_onward, least_onward, so_many}
use Rattle.cu_wait.proofs.LegLaws.{tile_within}
use Rattle.cu_wait.proofs.ListingLaws.{at_once}

-- where the first of these legs begins; the day's end where there is none
abbrev pub start_of : List Leg → ℕ
start_of [] = day
start_of (leg ∷ legs) = leg.from

-- these are the last legs of a day, behind which they and then the end allow these bounds, and a function is their hull
pub record AreLeft (f : ℕ → ℕ) (end : ℕ) (legs : List Leg) (bounds : List ℕ) : Type 0 where
  pub tile : Tile (start_of legs) legs
  pub behind : bounds ≡ bounds_behind end legs
  pub value : (t : ℕ) → start_of legs ≤ t → t < day → f t ≡ hull_in end legs t

-- the first of them, its bound, and the others
pub record IsNextLeft (f : ℕ → ℕ) (end : ℕ) (leg : Leg) (legs : List Leg) (bound : ℕ) (bounds : List ℕ) : Type 0 where
  pub onward : leg.until ≤ bound
  pub low : bound ≤ end
  pub next : start_of legs ≡ leg.until
  pub value : (t : ℕ) → leg.from ≤ t → t < leg.until → f t ≡ min (leg_least leg t) bound
  pub rest : AreLeft f end legs bounds

start_is : (start : ℕ) (legs : List Leg) → Tile start legs → start_of legs ≡ start
start_is start [] tile = sym tile
start_is start (leg ∷ legs) tile = tile.0

same_head : (x y : ℕ) (xs ys : List ℕ) → x ∷ xs ≡ y ∷ ys → (x ≡ y) × (xs ≡ ys)
same_head x y xs ys e = (cc e, cc e)

pub next_left : (f : ℕ → ℕ) (end : ℕ) (leg : Leg) (legs : List Leg) (bound : ℕ) (bounds : List ℕ) → day ≤ end → AreLeft f end (leg ∷ legs) (bound ∷ bounds)
    → IsNextLeft f end leg legs bound bounds
next_left f end leg legs bound bounds over left =
    let (from, some, rest) = left.tile in
    let (here, others) = same_head bound (bound_from end legs) bounds (bounds_behind end legs) left.behind in
    let next = start_is leg.until legs rest in
    let inside = tile_within leg.until legs rest in
    let onward = bound_onward leg.until end legs rest over in
    let low = bound_low end legs in
    record {
      onward = omega (arith, here, onward);
      low = omega (arith, here, low);
      next = next;
      value = λ t le lt.
          let b = lt-ltb t leg.until lt in
          let is : hull_in end (leg ∷ legs) t ≡ min (leg_least leg t) (bound_from end legs) = rw b refl in
          left.value t le (omega (arith, lt, inside)) ∙ is ∙ ap (λ (n : ℕ). min (leg_least leg t) n) (sym here);
      rest = record {
        tile = subst (λ (n : ℕ). Tile n legs) (sym next) rest;
        behind = others;
        value = λ t le lt.
            let past : leg.until ≤ t = omega (arith, next, le) in
            let b = le-ltb t leg.until past in
            let is : hull_in end (leg ∷ legs) t ≡ hull_in end legs t = rw b refl in
            left.value t (omega (arith, some, past, from)) lt ∙ is;
      };
    }

-- as many bounds as legs
pub as_many_bounds : (legs : List Leg) (bounds : List ℕ) → IsHull legs bounds → length bounds ≡ length legs
as_many_bounds legs bounds hull = ap length hull.behind ∙ so_many (day + day_least legs) legs

-- the leg that comes next
pub next_of_hull : (legs : List Leg) (bounds : List ℕ) (i : ℕ) (d : Leg) (e : ℕ) → IsHull legs bounds → i < length legs
    → AreLeft (hull_at legs) (day + day_least legs) (drop i legs) (drop i bounds)
    → (start_of (drop i legs) ≡ (get_or legs i d).from)
    × IsNextLeft (hull_at legs) (day + day_least legs) (get_or legs i d) (drop (i + 1) legs) (get_or bounds i e) (drop (i + 1) bounds)
next_of_hull legs bounds i d e hull some left =
    let end = day + day_least legs in
    let many = as_many_bounds legs bounds hull in
    let ls = drop_more legs i d some in
    let bs = drop_more bounds i e (omega (arith, many, some)) in
    let whole = subst (λ (xs : List Leg). AreLeft (hull_at legs) end xs (drop i bounds)) ls left in (
      ap start_of ls,
      next_left (hull_at legs) end (get_or legs i d) (drop (i + 1) legs) (get_or bounds i e) (drop (i + 1) bounds) (omega arith)
          (subst (λ (ys : List ℕ). AreLeft (hull_at legs) end (get_or legs i d ∷ drop (i + 1) legs) ys) bs whole),
    )

-- a stretch of a leg's least arrivals doesn't arrive before it leaves
pub stretch_onward : (leg : Leg) (bound second : ℕ) (course : Course) (arrival end : ℕ) → leg.from ≤ second → second < end → end ≤ leg.until → leg.until ≤ bound
    → ((t : ℕ) → second ≤ t → t < end → min (leg_least leg t) bound ≡ course_value course second arrival t)
    → (second ≤ arrival) × (end ≤ course_value course second arrival (end - 1) + 1)
stretch_onward leg bound second course arrival end after some inside over kept =
    let first = kept second (omega arith) some ∙ at_once course second arrival in
    let here = least_onward leg second after (omega (arith, some, inside)) in
    let last = kept (end - 1) (omega (arith, some)) (omega (arith, some)) in
    let there = least_onward leg (end - 1) (omega (arith, after, some)) (omega (arith, some, inside)) in
    (omega (arith, first, here, over, some, inside), omega (arith, last, there, over, inside, some))
