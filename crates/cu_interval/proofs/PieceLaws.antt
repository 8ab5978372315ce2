-- The least travel of a profile by its pieces is the least over the seconds of a day.
use Rattle.std.proofs.Common.{◌≡◌, ◌≤◌, ◌<◌, ◌+◌, ◌-◌, ℕ, zero, suc, List, [], ◌∷◌, Option, Some, None, refl, subst, ap, arith, inl, inr, ltb, get_or, min, true}
use Rattle.std.specs.Prelude.{slice_get}
use Rattle.std.proofs.lemmas.Bool.{and_parts, cases_lt, leb-true, ltb-true}
use Rattle.cu_model.specs.declared.profiles.Piece.{Piece}
use Rattle.cu_model.specs.declared.profiles.Rule.{Rule}
use Rattle.cu_model.specs.declared.profiles.Rule.TheVariants.{Travel, Until, Closed}
use Rattle.cu_model.specs.Begun.{last_begun, Rises}
use Rattle.cu_model.specs.Days.{day}
use Rattle.cu_model.specs.declared.limits.TheConstants.{MAX_TRAVEL, MAX_UNTIL}
use Rattle.cu_model.specs.declared.roads.RoadArc.{RoadArc}
use Rattle.cu_model.specs.Networks.{NetworkValue, IsNetwork}
use Rattle.cu_model.specs.Roads.{value_by, value_of}
use Rattle.cu_model.specs.Profiles.{IsProfile, is_in_limit, is_rule_in_limit, piece_at, piece_value, profile_value, rule_value}
use Rattle.cu_model.proofs.Begun.{gt_test, later_some, le_test}
use Rattle.cu_model.proofs.ProfileLaws.{value_in_day}
use Rattle.cu_model.proofs.RoadLaws.{all_at}
use Rattle.cu_chordal.specs.declared.graph.Ends.{Ends}
use Rattle.cu_interval.specs.declared.ways.Dir.{Dir}
use Rattle.cu_interval.specs.declared.ways.Way.{Way}
use Rattle.cu_interval.specs.declared.ways.Way.TheVariants.{Road, Via}
use Rattle.cu_interval.specs.declared.ways.Entry.{Entry}
use Rattle.cu_interval.specs.Hierarchies.{HierarchyValue, end_of, list_from, start_of}
use Rattle.cu_interval.specs.LeastBounds.{bound_by, bound_ends, bound_over, far, least_bound, least_of, least_over, road_bound, way_bound}
use Rattle.cu_interval.specs.LeastPieces.{arc_pieces, next_from, pieces_least, profile_pieces, road_pieces, rule_least}
use Rattle.cu_interval.proofs.BoundLaws.{least_over-below, least_over-least}

abbrev pub from_of : Piece → ℕ
from_of piece = piece.from

-- how long it takes by what has begun, leaving on day 0
abbrev travel : List Piece → ℕ → ℕ
travel ps s = piece_value (piece_at ps s) 0 s - s

travel_by : (ps : List Piece) (s : ℕ) (p : Piece) → piece_at ps s ≡ Some p → travel ps s ≡ rule_value p.rule 0 s - s
travel_by ps s p e = rw e refl

-- a rule takes no less than its least before its end, and exactly that in its last second
rule_takes : (r : Rule) (until s : ℕ) → s < until → rule_least r until ≤ rule_value r 0 s - s
rule_takes (Travel d) until s lt = omega (arith, lt)
rule_takes (Until c) until s lt = omega (arith, lt)
rule_takes (Closed v) until s lt = omega (arith, lt)

rule_last : (r : Rule) (until : ℕ) → 0 < until → rule_value r 0 (until - 1) - (until - 1) ≡ rule_least r until
rule_last (Travel d) until lt = omega (arith, lt)
rule_last (Until c) until lt = omega (arith, lt)
rule_last (Closed v) until lt = omega (arith, lt)

rises_first : (p q : Piece) (ps : List Piece) → Rises from_of (p ∷ q ∷ ps) → p.from < q.from
rises_first p q ps rises = rises 0 p (omega arith)

rises_rest : (p : Piece) (ps : List Piece) → Rises from_of (p ∷ ps) → Rises from_of ps
rises_rest p ps rises k d h =
    let same : suc k + 1 ≡ suc (k + 1) = omega arith in
    subst (λ (j : ℕ). from_of (get_or ps k d) < from_of (get_or (p ∷ ps) j d)) same (rises (suc k) d (omega (arith, h)))

-- before the first of rising pieces none has begun
none_before : (ps : List Piece) (s : ℕ) → Rises from_of ps → s < next_from ps → piece_at ps s ≡ None
none_before [] s rises lt = refl
none_before (p ∷ []) s rises lt = rw (gt_test p.from s lt) refl
none_before (p ∷ q ∷ ps) s rises lt =
    let first = rises_first p q ps rises in
    let rest = none_before (q ∷ ps) s (rises_rest p (q ∷ ps) rises) (omega (arith, lt, first)) in
    rw (gt_test p.from s lt, rest) refl

-- until the next begins a piece is in force
own_piece : (p : Piece) (ps : List Piece) (s : ℕ) → Rises from_of (p ∷ ps) → p.from ≤ s → s < next_from ps → piece_at (p ∷ ps) s ≡ Some p
own_piece p ps s rises begun lt =
    let rest = none_before ps s (rises_rest p ps rises) lt in
    rw (le_test p.from s begun, rest) refl

-- and from then on what follows is
rest_piece : (p q : Piece) (ps : List Piece) (s : ℕ) → q.from ≤ s → piece_at (p ∷ q ∷ ps) s ≡ piece_at (q ∷ ps) s
rest_piece p q ps s begun =
    let k = later_some q (last_begun from_of ps s) in
    let here : piece_at (q ∷ ps) s ≡ Some k.0 = rw (le_test q.from s begun) k.1 in
    rw here refl

least_far : (ps : List Piece) → pieces_least ps ≤ far
least_far [] = omega arith
least_far (p ∷ ps) = let rest = least_far ps in omega (arith, rest)

-- no second of the day takes less
none_less : (p : Piece) (ps : List Piece) (s : ℕ) → Rises from_of (p ∷ ps) → p.from ≤ s → s < day → pieces_least (p ∷ ps) ≤ travel (p ∷ ps) s
none_less p [] s rises begun lt =
    let own = own_piece p [] s rises begun lt in
    let takes = rule_takes p.rule day s lt in
    let same = travel_by (p ∷ []) s p own in
    omega (arith, takes, same)
none_less p (q ∷ ps) s rises begun lt =
    elim (cases_lt s q.from) [
      | inl before ↦
          let own = own_piece p (q ∷ ps) s rises begun before in
          let takes = rule_takes p.rule q.from s before in
          let same = travel_by (p ∷ q ∷ ps) s p own in
          omega (arith, takes, same)
      | inr after ↦
          let rest = none_less q ps s (rises_rest p (q ∷ ps) rises) after lt in
          let same : travel (p ∷ q ∷ ps) s ≡ travel (q ∷ ps) s = rw (rest_piece p q ps s after) refl in
          omega (arith, rest, same)
    ]

-- each piece begins in the day and takes at least no longer than `far`
pub record IsNear (p : Piece) : Type 0 where
  pub within : p.from < day
  pub near : (until : ℕ) → rule_least p.rule until ≤ far

record Taken (p : Piece) (ps : List Piece) : Type 0 where
  pub second : ℕ
  pub begun : p.from ≤ second
  pub within : second < day
  pub takes : travel (p ∷ ps) second ≤ pieces_least (p ∷ ps)

abbrev pub all_near : List Piece → Type 0
all_near ps = (k : ℕ) (p : Piece) → slice_get ps k ≡ Some p → IsNear p

-- some second of the day takes no more
some_least : (p : Piece) (ps : List Piece) → Rises from_of (p ∷ ps) → all_near (p ∷ ps) → Taken p ps
some_least p [] rises near =
    let here = near 0 p refl in
    let within = here.within in
    let few = here.near day in
    let last : p.from ≤ day - 1 = omega (arith, within) in
    let inside : day - 1 < day = omega arith in
    let own = own_piece p [] (day - 1) rises last inside in
    let same = travel_by (p ∷ []) (day - 1) p own in
    let takes = rule_last p.rule day (omega arith) in
    record { second = day - 1; begun = last; within = inside; takes = omega (arith, same, takes, few) }
some_least p (q ∷ ps) rises near =
    let rest = some_least q ps (rises_rest p (q ∷ ps) rises) (λ k d e. near (suc k) d e) in
    let first = rises_first p q ps rises in
    let next = near 1 q refl in
    let within = next.within in
    let taken = rest.takes in
    let begun = rest.begun in
    elim (cases_lt (rule_least p.rule q.from) (pieces_least (q ∷ ps))) [
      | inl less ↦
          let last : p.from ≤ q.from - 1 = omega (arith, first) in
          let before : q.from - 1 < q.from = omega (arith, first) in
          let own = own_piece p (q ∷ ps) (q.from - 1) rises last before in
          let same = travel_by (p ∷ q ∷ ps) (q.from - 1) p own in
          let takes = rule_last p.rule q.from (omega (arith, first)) in
          record { second = q.from - 1; begun = last; within = omega (arith, first, within); takes = omega (arith, same, takes, less) }
      | inr more ↦
          let same : travel (p ∷ q ∷ ps) rest.second ≡ travel (q ∷ ps) rest.second = rw (rest_piece p q ps rest.second begun) refl in
          record { second = rest.second; begun = omega (arith, first, begun); within = rest.within; takes = omega (arith, same, taken, more) }
    ]

-- the least travel by pieces is the least over the day
pub pieces_least-day : (p : Piece) (ps : List Piece) → Rises from_of (p ∷ ps) → all_near (p ∷ ps) → p.from ≡ 0
    → least_over day (λ s. profile_value (p ∷ ps) s - s) ≡ pieces_least (p ∷ ps)
pieces_least-day p ps rises near starts =
    let some = some_least p ps rises near in
    let second = some.second in
    let takes = some.takes in
    let low = least_over-below day (λ s. profile_value (p ∷ ps) s - s) second some.within in
    let value : profile_value (p ∷ ps) second - second ≡ travel (p ∷ ps) second = ap (λ (x : ℕ). x - second) (value_in_day (p ∷ ps) second some.within) in
    let high = least_over-least day (λ s. profile_value (p ∷ ps) s - s) (pieces_least (p ∷ ps)) (least_far (p ∷ ps))
    (λ s lt.
    let less = none_less p ps s rises (omega (arith, starts)) lt in
    let same : profile_value (p ∷ ps) s - s ≡ travel (p ∷ ps) s = ap (λ (x : ℕ). x - s) (value_in_day (p ∷ ps) s lt) in
    omega (arith, less, same)) in
    omega (arith, low, value, takes, high)

rule_near : (r : Rule) (until : ℕ) → is_rule_in_limit r ≡ true → rule_least r until ≤ far
rule_near (Travel d) until h = let most = leb-true d MAX_TRAVEL h in omega (arith, most)
rule_near (Until c) until h = let most = leb-true c MAX_UNTIL h in omega (arith, most)
rule_near (Closed v) until h = omega arith

piece_near : (p : Piece) → is_in_limit p ≡ true → IsNear p
piece_near p h =
    let parts = and_parts (ltb p.from day) (is_rule_in_limit p.rule) h in
    record { within = ltb-true p.from day parts.0; near = λ until. rule_near p.rule until parts.1 }

-- of a profile
pub profile_least : (ps : List Piece) → IsProfile ps → least_over day (λ s. profile_value ps s - s) ≡ pieces_least ps
profile_least [] f = absurd (let e = f.starts in cc e)
profile_least (p ∷ ps) f =
    let starts = f.starts in
    let first : p.from ≡ 0 = cc starts in
    pieces_least-day p ps f.rises (λ k q e. piece_near q (all_at (λ (piece : Piece). is_in_limit piece ≡ true) (p ∷ ps) k q f.limits e)) first

nothing : (f : ℕ → ℕ) → f 0 ≡ 0 → least_over day f ≡ 0
nothing f zero_at = let low = least_over-below day f 0 (omega arith) in omega (arith, low, zero_at)

by_profile : (o : Option (List Piece)) → ((ps : List Piece) → o ≡ Some ps → IsProfile ps) → least_over day (λ s. value_of o s - s) ≡ profile_pieces o
by_profile None valid = nothing (λ s. value_of None s - s) (omega arith)
by_profile (Some ps) valid = profile_least ps (valid ps refl)

by_arc : (g : NetworkValue) → IsNetwork g → (o : Option RoadArc) → least_over day (λ s. value_by g o s - s) ≡ arc_pieces g o
by_arc g n None = nothing (λ s. value_by g None s - s) (omega arith)
by_arc g n (Some arc) = by_profile (slice_get g.profiles arc.profile) (λ ps e. all_at IsProfile g.profiles arc.profile ps n.valid e)

-- the bound of a road is the least travel of its profile, piece by piece
pub road_bound-pieces : (g : NetworkValue) → IsNetwork g → (a : ℕ) → road_bound g a ≡ road_pieces g a
unfolding road_bound
road_bound-pieces g n a = by_arc g n (slice_get g.arcs a)

module _ (road other : ℕ → ℕ) (same : (a : ℕ) → road a ≡ other a) (h : HierarchyValue) where
  way_same : (half half' : ℕ → ℕ → ℕ) → ((u v : ℕ) → half u v ≡ half' u v) → (u v : ℕ) (way : Way) → way_bound road half u v way ≡ way_bound other half' u v way
  way_same half half' halves u v (Road a) = same a
  way_same half half' halves u v (Via m) = rw (halves u m, halves m v) refl

  least_same : (f g : Way → ℕ) → ((way : Way) → f way ≡ g way) → (es : List Entry) → least_of f es ≡ least_of g es
  least_same f g each [] = refl
  least_same f g each (e ∷ es) = rw (each e.way, least_same f g each es) refl

  -- bounds are those by the bounds of the roads
  pub bound_by-roads : (fuel u v : ℕ) → bound_by road h fuel u v ≡ bound_by other h fuel u v
  bound_by-roads zero u v = refl
  bound_by-roads (suc fuel) u v =
      least_same (way_bound road (bound_by road h fuel) u v) (way_bound other (bound_by other h fuel) u v)
      (way_same (bound_by road h fuel) (bound_by other h fuel) (bound_by-roads fuel) u v) (list_from h u v)

  pub bound_ends-roads : (o : Option Ends) (dir : Dir) → bound_ends road h o dir ≡ bound_ends other h o dir
  bound_ends-roads None dir = refl
  bound_ends-roads (Some ends) dir = bound_by-roads (suc (min (start_of ends dir) (end_of ends dir))) (start_of ends dir) (end_of ends dir)

-- the least bound of a list, by the pieces of all profiles
pub least_bound-pieces : (h : HierarchyValue) → IsNetwork h.network → (edge : ℕ) (dir : Dir) → least_bound h edge dir ≡ bound_over (road_pieces h.network) h edge dir
least_bound-pieces h n edge dir = bound_ends-roads (road_bound h.network) (road_pieces h.network) (road_bound-pieces h.network n) h (slice_get h.edges edge) dir
