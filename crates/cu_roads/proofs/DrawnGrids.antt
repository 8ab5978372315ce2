-- Days and roads drawn one after the other.
use Rattle.std.proofs.Common.{rules, ◌≡◌, ◌∙◌, ◌≤◌, ◌<◌, ◌+◌, ◌*◌, ℕ, zero, suc, List, [], ◌∷◌, ◌++◌, Some, None, refl, ap, sym, arith, append_assoc, length, length-append}
use Rattle.std.specs.Prelude.{MatchResult, Result, Ok, Err}
use Rattle.std.specs.Result.{IsOk}
use Rattle.std.proofs.lemmas.List.{append-nil}
use Rattle.std.proofs.lemmas.List.FromFn.{map-range_with_len_more}
use Rattle.std.proofs.lemmas.List.Concat.{flat_map-append}
use Rattle.std.specs.List.{flat_map, range_with_len}
use Rattle.cu_model.specs.declared.profiles.Piece.{Piece}
use Rattle.cu_model.specs.declared.profiles.PieceFault.{PieceFault}
use Rattle.cu_model.specs.declared.roads.RoadArc.{RoadArc}
use Rattle.cu_model.specs.Faults.{piece_fault}
use Rattle.cu_model.specs.Profiles.{IsProfile}
use Rattle.cu_model.proofs.FaultLaws.{piece_fault_none_from}
use Rattle.cu_roads.specs.declared.grids.TheConstants.{EXTRA_RANGE, FREE_RANGE, LEAST_FREE, PROFILES}
use Rattle.cu_roads.specs.Draws.{after, drawn, stepped}
use Rattle.cu_roads.specs.Grids.{RoadEnds, drawn_day, drawn_days, drawn_roads, rush_hour}
use Rattle.cu_roads.specs.Steps.DrawnRoads.{AddsRoads}
use Rattle.cu_roads.proofs.DrawSteps.{after_more, after_none, after_one, drawn_below}

rush_profile : (free extra : ℕ) → free < LEAST_FREE + FREE_RANGE → 1 ≤ extra → extra ≤ EXTRA_RANGE → IsProfile (rush_hour free extra)
rush_profile free extra f some few = search rules

-- a drawn day is a profile
pub day_profile : (state : ℕ) → IsProfile (drawn_day state)
unfolding drawn_day
day_profile state =
    let free = drawn_below FREE_RANGE state (omega arith) in
    let extra = drawn_below EXTRA_RANGE (stepped state) (omega arith) in
    rush_profile (LEAST_FREE + drawn FREE_RANGE state) (1 + drawn EXTRA_RANGE (stepped state)) (omega (arith, free)) (omega arith) (omega (arith, extra))

pub day_length : (state : ℕ) → length (drawn_day state) ≡ 4
unfolding drawn_day
day_length state = refl

-- no days yet
pub days_none : (state : ℕ) → drawn_days 0 state ≡ []
unfolding drawn_days
days_none state = refl

-- one more day
pub days_more : (count state : ℕ) → drawn_days (count + 1) state ≡ drawn_days count state ++ (drawn_day (after (2 * count) state) ∷ [])
unfolding drawn_days
days_more count state = map-range_with_len_more (λ (number : ℕ). drawn_day (after (2 * number) state)) 0 count count (omega arith)

pub after_day : (count state : ℕ) → after 2 (after (2 * count) state) ≡ after (2 * (count + 1)) state
after_day count state = let e : 2 * count + 2 ≡ 2 * (count + 1) = omega arith in after_more (2 * count) 2 state ∙ ap (λ (n : ℕ). after n state) e

-- roads with these ends and then with those
drawn_roads-append : (xs ys : List RoadEnds) (state : ℕ) → drawn_roads (xs ++ ys) state ≡ drawn_roads xs state ++ drawn_roads ys (after (length xs) state)
drawn_roads-append [] ys state = ap (drawn_roads ys) (sym (after_none state))
drawn_roads-append (x ∷ xs) ys state =
    let step : after (length xs) (stepped state) ≡ after (length (x ∷ xs)) state =
    ap (after (length xs)) (sym (after_one state)) ∙ after_more 1 (length xs) state ∙ (let e : 1 + length xs ≡ length (x ∷ xs) = omega arith in ap (λ (n : ℕ). after n state) e) in
    let road : RoadArc = record { tail = x.tail; head = x.head; profile = drawn PROFILES state } in
    ap (λ (roads : List RoadArc). road ∷ roads) (drawn_roads-append xs ys (stepped state))
    ∙ ap (λ (s : ℕ). road ∷ (drawn_roads xs (stepped state) ++ drawn_roads ys s)) step

pub length-drawn_roads : (ends : List RoadEnds) (state : ℕ) → length (drawn_roads ends state) ≡ length ends
length-drawn_roads [] state = refl
length-drawn_roads (x ∷ xs) state = ap suc (length-drawn_roads xs (stepped state))

-- no roads
pub adds_none : (roads : List RoadArc) (state : ℕ) → AddsRoads [] roads state roads state
adds_none roads state = record { roads = sym (append-nil roads); state = sym (after_none state) }

-- one road
pub adds_one : (roads : List RoadArc) (state tail head profile : ℕ) → profile ≡ drawn PROFILES state
    → AddsRoads (record { tail = tail; head = head } ∷ []) roads state (roads ++ (record { tail = tail; head = head; profile = profile } ∷ [])) (stepped state)
adds_one roads state tail head profile e = record { roads = rw e refl; state = sym (after_one state) }

-- roads and then more
pub adds_then : (xs ys : List RoadEnds) (a b c : List RoadArc) (s t u : ℕ) → AddsRoads xs a s b t → AddsRoads ys b t c u → AddsRoads (xs ++ ys) a s c u
adds_then xs ys a b c s t u f g = record {
  roads = g.roads
      ∙ ap (λ (roads : List RoadArc). roads ++ drawn_roads ys t) f.roads
      ∙ append_assoc a (drawn_roads xs s) (drawn_roads ys t)
      ∙ ap (λ (state : ℕ). a ++ (drawn_roads xs s ++ drawn_roads ys state)) f.state
      ∙ ap (λ (roads : List RoadArc). a ++ roads) (sym (drawn_roads-append xs ys s));
  state = g.state
      ∙ ap (after (length ys)) f.state
      ∙ after_more (length xs) (length ys) s
      ∙ ap (λ (n : ℕ). after n s) (sym (length-append xs ys));
}

range_more : (a n : ℕ) → range_with_len a (n + 1) ≡ range_with_len a n ++ ((a + n) ∷ [])
range_more a zero = let e : a ≡ a + 0 = omega arith in ap (λ (k : ℕ). k ∷ []) e
range_more a (suc n) =
    let e : (a + 1) + n ≡ a + suc n = omega arith in
    let f : suc n + 1 ≡ suc (n + 1) = omega arith in
    ap (range_with_len a) f
    ∙ ap (λ (rest : List ℕ). a ∷ rest) (range_more (a + 1) n)
    ∙ ap (λ (k : ℕ). a ∷ (range_with_len (a + 1) n ++ (k ∷ []))) e

-- what one more number gives
pub flat_more : {X : Type 0} (f : ℕ → List X) (n : ℕ) → flat_map f (range_with_len 0 (n + 1)) ≡ flat_map f (range_with_len 0 n) ++ f n
flat_more f n =
    let e : 0 + n ≡ n = omega arith in
    ap (flat_map f) (range_more 0 n)
    ∙ flat_map-append f (range_with_len 0 n) ((0 + n) ∷ [])
    ∙ ap (λ (xs : List _). flat_map f (range_with_len 0 n) ++ xs) (append-nil (f (0 + n)))
    ∙ ap (λ (k : ℕ). flat_map f (range_with_len 0 n) ++ f k) e

pub day_is : (free extra state : ℕ) → free ≡ drawn FREE_RANGE state → extra ≡ drawn EXTRA_RANGE (stepped state) → rush_hour (LEAST_FREE + free) (1 + extra) ≡ drawn_day state
unfolding drawn_day
day_is free extra state e f = rw (e, f) refl

-- a profile has no fault, so a check accepts it
pub accepted : {A : Type 0} (answer : Result A PieceFault) (pieces : List Piece)
    → MatchResult answer (λ _. piece_fault pieces ≡ None) (λ fault. piece_fault pieces ≡ Some fault) → IsProfile pieces → IsOk answer
accepted (Ok a) pieces none v = refl
accepted (Err fault) pieces some v = absurd (cc (some, piece_fault_none_from pieces v))
