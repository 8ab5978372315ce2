-- No walk of a list has more roads than its most.
use Rattle.std.proofs.Common.{◌≡◌, ◌≢◌, ◌≤◌, ◌<◌, ◌%◌, ℕ, zero, suc, List, [], ◌∷◌, Option, Some, None, refl, sym, subst, arith, min, length, ltb, true}
use Rattle.std.specs.Prelude.{All, slice_get}
use Rattle.std.proofs.lemmas.List.{length-append}
use Rattle.cu_model.specs.Days.{day}
use Rattle.cu_model.specs.Roads.{drive}
use Rattle.cu_chordal.specs.declared.graph.Ends.{Ends}
use Rattle.cu_interval.specs.declared.ways.Way.{Way}
use Rattle.cu_interval.specs.declared.ways.Way.TheVariants.{Road, Via}
use Rattle.cu_interval.specs.declared.ways.Entry.{Entry}
use Rattle.cu_interval.specs.declared.relaxing.Relaxed.TheVariants.{Long}
use Rattle.cu_interval.specs.Hierarchies.{HierarchyValue, IsHierarchy, list_from, way_from, start_of, end_of}
use Rattle.cu_interval.specs.Unpacking.{answer_by, relaxed_ends, unpacked, unpacked_walk, unpacked_way}
use Rattle.cu_interval.proofs.Lookups.{way_held, well_formed}
use Rattle.cu_interval.proofs.Unpacked.{list_from_spelled, way_there}
use Rattle.cu_short.specs.Shortness.{IsShort, NeverLong, most_by, most_of, most_roads, way_roads}

most_each : (f : Way → ℕ) (es : List Entry) → All (λ (e : Entry). f e.way ≤ most_of f es) es
most_each f [] k d h = absurd (omega (arith, h))
most_each f (e ∷ es) zero d h = omega arith
most_each f (e ∷ es) (suc k) d h = let rest = most_each f es k d (omega (arith, h)) in omega (arith, rest)

module _ (h : HierarchyValue) (f : IsHierarchy h) where
  way_has : (fuel u v t : ℕ) (way : Way) → way_from h u v t ≡ Some way
      → ((x y s : ℕ) → min x y < min u v → list_from h x y ≢ [] → length (unpacked h fuel x y s) ≤ most_by h fuel x y)
      → length (unpacked_way h.network (unpacked h fuel) u v t (Some way)) ≤ way_roads (most_by h fuel) u v way
  way_has fuel u v t (Road a) e lower = omega arith
  way_has fuel u v t (Via m) e lower =
      let w = well_formed h f u v t (Via m) e in
      let mu = w.0 in
      let mv = w.1 in
      let first = unpacked h fuel u m t in
      let s = drive h.network first t in
      let p = lower u m t (omega (arith, mu, mv)) w.4 in
      let q = lower m v s (omega (arith, mu, mv)) w.5 in
      let both = length-append first (unpacked h fuel m v s) in
      omega (arith, p, q, both)

  walk_has_by : (fuel u v t : ℕ) → min u v < fuel → list_from h u v ≢ [] → length (unpacked h fuel u v t) ≤ most_by h fuel u v
  walk_has_by zero u v t lt some = absurd (omega (arith, lt))
  walk_has_by (suc fuel) u v t lt some =
      let (way, e) = way_there (list_from h u v) (list_from_spelled h f u v) some (t % day) in
      let roads = way_roads (most_by h fuel) u v in
      let most = way_held (λ (w : Way). roads w ≤ most_of roads (list_from h u v)) (list_from h u v) (t % day) way (most_each roads (list_from h u v)) e in
      let has = way_has fuel u v t way e (λ x y s less list. walk_has_by fuel x y s (omega (arith, less, lt)) list) in
      subst (λ (o : Option Way). length (unpacked_way h.network (unpacked h fuel) u v t o) ≤ most_of roads (list_from h u v)) (sym e) (omega (arith, most, has))

  -- the walk of a list has no more roads than its most
  pub walk_has : (u v t : ℕ) → list_from h u v ≢ [] → length (unpacked_walk h u v t) ≤ most_roads h u v
  walk_has u v t some = walk_has_by (suc (min u v)) u v t (omega arith) some

answer_short : (h : HierarchyValue) (entries : List Entry) (walk : List ℕ) (t : ℕ) → (entries ≢ [] → length walk < h.network.nodes)
    → answer_by h entries walk t ≢ Long
answer_short h [] walk t short = λ e. absurd (cc e)
answer_short h (entry ∷ entries) walk t short =
    let lt = short (λ none. absurd (cc none)) in
    let is : ltb (length walk) h.network.nodes ≡ true = grind (arith, lt) in
    rw is (λ e. absurd (cc e))

-- in a short hierarchy no walk is too long
pub short_never_long : (h : HierarchyValue) → IsHierarchy h → IsShort h → NeverLong h
short_never_long h f short edge dir t =
    ends_short (slice_get h.edges edge) refl
  where
    ends_short : (o : Option Ends) → slice_get h.edges edge ≡ o → relaxed_ends h o dir t ≢ Long
    ends_short None at = λ e. absurd (cc e)
    ends_short (Some ends) at =
        let u = start_of ends dir in
        let v = end_of ends dir in
        let fewer = short edge dir ends at in
        answer_short h (list_from h u v) (unpacked_walk h u v t) t (λ some. let has = walk_has h f u v t some in omega (arith, has, fewer))
