-- No travel over a list falls below its least bound.
use Rattle.std.proofs.Common.{◌≡◌, ◌≢◌, ◌≤◌, ◌<◌, ◌+◌, ◌-◌, ◌*◌, ◌/◌, ◌%◌, ◌∙◌, ℕ, zero, suc, List, [], ◌∷◌, Option, Some, None, refl, sym, ap, subst, arith, inl, inr, min, length, ltb, true, false}
use Rattle.std.specs.Prelude.{All, slice_get}
use Rattle.std.proofs.lemmas.Bool.{cases_lt}
use Rattle.std.proofs.lemmas.Nat.{div-add-mod', mod_below}
use Rattle.std.proofs.lemmas.List.{length-append}
use Rattle.cu_model.specs.Days.{day}
use Rattle.cu_model.specs.Networks.{NetworkValue, IsNetwork}
use Rattle.cu_model.specs.Orders.{OrderValue}
use Rattle.cu_model.specs.Roads.{arc_value, drive}
use Rattle.cu_model.proofs.RoadLaws.{arc_value-onward, drive-append, leads_within}
use Rattle.cu_chordal.specs.declared.graph.Ends.{Ends}
use Rattle.cu_interval.specs.declared.ways.Dir.{Dir}
use Rattle.cu_interval.specs.declared.ways.Way.{Way}
use Rattle.cu_interval.specs.declared.ways.Way.TheVariants.{Road, Via}
use Rattle.cu_interval.specs.declared.ways.Entry.{Entry}
use Rattle.cu_interval.specs.declared.relaxing.Relaxed.TheVariants.{At, Long}
use Rattle.cu_interval.specs.Low.{LeadsRanks}
use Rattle.cu_interval.specs.Hierarchies.{HierarchyValue, IsHierarchy, list_from, way_from, start_of, end_of}
use Rattle.cu_interval.specs.Unpacking.{answer_by, relaxed, relaxed_ends, unpacked, unpacked_walk, unpacked_way}
use Rattle.cu_interval.proofs.Days.{leads-days}
use Rattle.cu_interval.proofs.Lookups.{way_held, well_formed}
use Rattle.cu_interval.proofs.Unpacked.{list_from_spelled, way_there}
use Rattle.cu_interval.specs.LeastBounds.{bound_by, bound_ends, bound_from, far, least_bound, least_of, least_over, road_bound, way_bound}

-- the least over so many seconds is no more than the value at each of them
pub least_over-below : (n : ℕ) (f : ℕ → ℕ) (s : ℕ) → s < n → least_over n f ≤ f s
unfolding least_over
least_over-below zero f s lt = absurd (omega (arith, lt))
least_over-below (suc n) f s lt =
    elim (cases_lt s n) [
      | inl below ↦ let rest = least_over-below n f s below in omega (arith, rest)
      | inr last ↦ let same : s ≡ n = omega (arith, lt, last) in subst (λ (k : ℕ). min (least_over n f) (f n) ≤ f k) (sym same) (omega arith)
    ]

-- and no less than what each of them is at least
pub least_over-least : (n : ℕ) (f : ℕ → ℕ) (b : ℕ) → b ≤ far → ((s : ℕ) → s < n → b ≤ f s) → b ≤ least_over n f
unfolding least_over
least_over-least zero f b le each = le
least_over-least (suc n) f b le each =
    let rest = least_over-least n f b le (λ s lt. each s (omega (arith, lt))) in
    let last = each n (omega arith) in
    omega (arith, rest, last)

-- no road takes less than its bound, at whatever second
pub road_takes : (g : NetworkValue) (o : OrderValue) → IsNetwork g → (a u v t : ℕ) → LeadsRanks g o a u v → t + road_bound g a ≤ arc_value g a t
unfolding road_bound
road_takes g o n a u v t leads =
    let s = t % day in
    let least = least_over-below day (λ second. arc_value g a second - second) s (mod_below t day (omega arith)) in
    let on = arc_value-onward g n a (leads_within g a leads.0 leads.1 leads.2) s in
    let parts = div-add-mod' t day in
    let whole : (t / day) * day + s ≡ t = omega (arith, parts) in
    let days = leads-days g o n a u v (t / day) s leads in
    let same : arc_value g a t ≡ (t / day) * day + arc_value g a s = ap (arc_value g a) (sym whole) ∙ days in
    omega (arith, least, on, whole, same)

-- the least of a list is no more than each of its ways
least_each : (f : Way → ℕ) (es : List Entry) → All (λ (e : Entry). least_of f es ≤ f e.way) es
least_each f [] k d h = absurd (omega (arith, h))
least_each f (e ∷ es) zero d h = omega arith
least_each f (e ∷ es) (suc k) d h = let rest = least_each f es k d (omega (arith, h)) in omega (arith, rest)

module _ (h : HierarchyValue) (f : IsHierarchy h) where
  way_takes : (fuel u v t : ℕ) (way : Way) → way_from h u v t ≡ Some way
      → ((x y s : ℕ) → min x y < min u v → list_from h x y ≢ [] → s + bound_by (road_bound h.network) h fuel x y ≤ drive h.network (unpacked h fuel x y s) s)
      → t + way_bound (road_bound h.network) (bound_by (road_bound h.network) h fuel) u v way ≤ drive h.network (unpacked_way h.network (unpacked h fuel) u v t (Some way)) t
  way_takes fuel u v t (Road a) e lower = road_takes h.network h.order f.network a u v t (well_formed h f u v t (Road a) e)
  way_takes fuel u v t (Via m) e lower =
      let w = well_formed h f u v t (Via m) e in
      let mu = w.0 in
      let mv = w.1 in
      let first = unpacked h fuel u m t in
      let s = drive h.network first t in
      let p = lower u m t (omega (arith, mu, mv)) w.4 in
      let q = lower m v s (omega (arith, mu, mv)) w.5 in
      let both = drive-append h.network first (unpacked h fuel m v s) t in
      omega (arith, p, q, both)

  walk_takes_by : (fuel u v t : ℕ) → min u v < fuel → list_from h u v ≢ []
      → t + bound_by (road_bound h.network) h fuel u v ≤ drive h.network (unpacked h fuel u v t) t
  walk_takes_by zero u v t lt some = absurd (omega (arith, lt))
  walk_takes_by (suc fuel) u v t lt some =
      let (way, e) = way_there (list_from h u v) (list_from_spelled h f u v) some (t % day) in
      let bound = way_bound (road_bound h.network) (bound_by (road_bound h.network) h fuel) u v in
      let least = way_held (λ (w : Way). least_of bound (list_from h u v) ≤ bound w) (list_from h u v) (t % day) way (least_each bound (list_from h u v)) e in
      let takes = way_takes fuel u v t way e (λ x y s less list. walk_takes_by fuel x y s (omega (arith, less, lt)) list) in
      subst (λ (o : Option Way). t + least_of bound (list_from h u v) ≤ drive h.network (unpacked_way h.network (unpacked h fuel) u v t o) t) (sym e) (omega (arith, least, takes))

  -- the walk of a list that isn't empty takes no less than the list's bound
  pub walk_takes : (u v t : ℕ) → list_from h u v ≢ [] → t + bound_from h u v ≤ drive h.network (unpacked_walk h u v t) t
  walk_takes u v t some = walk_takes_by (suc (min u v)) u v t (omega arith) some

answer_takes : (h : HierarchyValue) (entries : List Entry) (walk : List ℕ) (t least s : ℕ) → (entries ≢ [] → t + least ≤ drive h.network walk t)
    → answer_by h entries walk t ≡ At s → t + least ≤ s
answer_takes h [] walk t least s takes e = absurd (cc e)
answer_takes h (entry ∷ entries) walk t least s takes e =
    elim (cases_lt (length walk) h.network.nodes) [
      | inl short ↦
          let is : ltb (length walk) h.network.nodes ≡ true = grind (arith, short) in
          let arrives : At (drive h.network walk t) ≡ At s = rw is at e in
          let same : drive h.network walk t ≡ s = cc arrives in
          let least = takes (λ none. absurd (cc none)) in
          omega (arith, least, same)
      | inr long ↦
          let is : ltb (length walk) h.network.nodes ≡ false = grind (arith, long) in
          let other : Long ≡ At s = rw is at e in
          absurd (cc other)
    ]

-- a relaxation that arrives takes no less than the least bound of its list
pub relaxed_takes : (h : HierarchyValue) → IsHierarchy h → (edge : ℕ) (dir : Dir) (t s : ℕ) → relaxed h edge dir t ≡ At s → t + least_bound h edge dir ≤ s
relaxed_takes h f edge dir t s e =
    ends_take (slice_get h.edges edge) e
  where
    ends_take : (o : Option Ends) → relaxed_ends h o dir t ≡ At s → t + bound_ends (road_bound h.network) h o dir ≤ s
    ends_take None g = absurd (cc g)
    ends_take (Some ends) g =
        let u = start_of ends dir in
        let v = end_of ends dir in
        answer_takes h (list_from h u v) (unpacked_walk h u v t) t (bound_from h u v) s (walk_takes h f u v t) g
