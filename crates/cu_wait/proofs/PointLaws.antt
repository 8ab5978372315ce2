-- The legs of points, one after the other.
use Rattle.std.proofs.Common.{◌≡◌, ◌≤◌, ◌<◌, ◌+◌, ◌-◌, ◌∙◌, ℕ, List, [], ◌∷◌, ◌++◌, length, take, drop, get_or, All, sym, ap, arith, append_assoc}
use Rattle.std.proofs.lemmas.List.{drop_all, drop_more, take_all}
use Rattle.std.proofs.lemmas.List.Elements.{All-cons, All-nil}
use Rattle.cu_model.specs.declared.limits.TheConstants.{MAX_TRAVEL}
use Rattle.cu_model.specs.Begun.{Rises}
use Rattle.cu_model.specs.Days.{day}
use Rattle.cu_wait.specs.declared.legs.Leg.{Leg}
use Rattle.cu_wait.specs.declared.points.Mode.{Mode}
use Rattle.cu_wait.specs.declared.points.Mode.TheVariants.{Line, Step}
use Rattle.cu_wait.specs.declared.points.Point.{Point}
use Rattle.cu_wait.specs.Legs.{IsLeg, last_by, leg_behind, legs_from, legs_of}
use Rattle.cu_wait.specs.Measured.{IsMeasured, IsPoint}
use Rattle.cu_wait.proofs.HullLaws.{tail_points, tail_rises}

-- a measured profile has a point
pub some_points : (points : List Point) → IsMeasured points → 0 < length points
some_points [] m = absurd (let s = m.starts in cc s)
some_points (point ∷ points) m = omega arith

-- the legs from the first point on are those of all
pub legs_begun : (points : List Point) (d : Point) → 0 < length points
    → legs_from (get_or points 0 d).travel (get_or points 0 d) (take (length points - 1) (drop 1 points)) ≡ legs_of points
legs_begun [] d some = absurd (omega (arith, some))
legs_begun (point ∷ points) d some =
    let rest : take (length (point ∷ points) - 1) points ≡ points = take_all (length (point ∷ points) - 1) points (omega arith) in
    ap (legs_from point.travel point) rest

-- one more leg
pub legs_more : (first : ℕ) (point d : Point) (points : List Point) (i : ℕ) (done all : List Leg) → i < length points
    → done ++ legs_from first point (drop i points) ≡ all
    → (done ++ (leg_behind point (get_or points i d).second (get_or points i d).travel ∷ [])) ++ legs_from first (get_or points i d) (drop (i + 1) points) ≡ all
legs_more first point d points i done all lt is =
    let next = get_or points i d in
    append_assoc done (leg_behind point next.second next.travel ∷ []) (legs_from first next (drop (i + 1) points))
    ∙ ap (λ (rest : List Point). done ++ legs_from first point rest) (sym (drop_more points i d lt)) ∙ is

-- and the last one
pub legs_last : (first : ℕ) (point : Point) (points : List Point) (i : ℕ) (done all : List Leg) → length points ≤ i
    → done ++ legs_from first point (drop i points) ≡ all → done ++ (leg_behind point day first ∷ []) ≡ all
legs_last first point points i done all le is =
    ap (λ (rest : List Point). done ++ legs_from first point rest) (sym (drop_all i points le)) ∙ is

last_within : (mode : Mode) (point : Point) (next : ℕ) → point.travel ≤ MAX_TRAVEL → next ≤ MAX_TRAVEL → last_by mode point next ≤ MAX_TRAVEL
last_within Line point next own other = other
last_within Step point next own other = own

leg_sound : (point : Point) (until next : ℕ) → IsPoint point → point.second < until → until ≤ day → next ≤ MAX_TRAVEL → IsLeg (leg_behind point until next)
leg_sound point until next is some inside limit = record { some = some; inside = inside; first = is.1; last = last_within point.mode point next is.1 limit }

from_sound : (first : ℕ) (point : Point) (points : List Point) → first ≤ MAX_TRAVEL → All IsPoint (point ∷ points) → Rises (λ (p : Point). p.second) (point ∷ points)
    → All IsLeg (legs_from first point points)
from_sound first point [] limit all rises =
    let is = (tail_points point [] all).0 in
    All-cons IsLeg (leg_behind point day first) [] (leg_sound point day first is is.0 (omega arith) limit) (All-nil IsLeg)
from_sound first point (next ∷ points) limit all rises =
    let (is, rest) = tail_points point (next ∷ points) all in
    let (some, later) = tail_rises point next points rises in
    let (inside, travel) = (tail_points next points rest).0 in
    All-cons IsLeg (leg_behind point next.second next.travel) (legs_from first next points)
    (leg_sound point next.second next.travel is some (omega (arith, inside)) travel)
    (from_sound first next points limit rest later)

pub legs_sound : (points : List Point) → IsMeasured points → All IsLeg (legs_of points)
legs_sound [] m = All-nil IsLeg
legs_sound (point ∷ points) m = from_sound point.travel point points (tail_points point points m.limits).0.1 m.limits m.rises
