-- No rebuilt value of a list falls below its least bound.
use Rattle.std.proofs.Common.{◌≡◌, ◌≤◌, ◌<◌, ◌+◌, ◌*◌, ◌/◌, ◌%◌, ◌^◌, ◌∷◌, ℕ, zero, suc, List, [], Option, Some, None, ap, refl, subst, arith, min}
use Rattle.std.specs.Prelude.{All, option_map, slice_get}
use Rattle.std.proofs.lemmas.Nat.{div-add-mod', mod_below}
use Rattle.cu_model.specs.Days.{day}
use Rattle.cu_chordal.specs.declared.graph.Ends.{Ends}
use Rattle.cu_interval.specs.declared.ways.Dir.{Dir}
use Rattle.cu_interval.specs.declared.ways.Way.{Way}
use Rattle.cu_interval.specs.declared.ways.Way.TheVariants.{Road, Via}
use Rattle.cu_interval.specs.declared.ways.Entry.{Entry}
use Rattle.cu_interval.specs.Hierarchies.{HierarchyValue, IsHierarchy, IsWellFormed, end_of, list_from, start_of}
use Rattle.cu_interval.specs.LeastBounds.{bound_by, bound_ends, bound_from, far, least_bound, least_of, road_bound, way_bound}
use Rattle.cu_interval.specs.Resettling.{ArrivesIn, least_in, lesser_of, rebuilt, rebuilt_by, then_at, value_by}
use Rattle.cu_interval.proofs.BoundLaws.{road_takes}
use Rattle.cu_interval.proofs.Lookups.{list_formed}

-- a value, if there is one, is no less than this
abbrev IsNoLess : ℕ → Option ℕ → Type 0
IsNoLess least value = (x : ℕ) → value ≡ Some x → least ≤ x

lesser_no_less : (one two : ℕ) (first second : Option ℕ) → IsNoLess one first → IsNoLess two second → IsNoLess (min one two) (lesser_of first second)
lesser_no_less one two None second low high x e = let here = high x e in omega (arith, here)
lesser_no_less one two (Some y) None low high x e = let here = low x e in omega (arith, here)
lesser_no_less one two (Some y) (Some z) low high x e =
    let same : min y z ≡ x = cc e in
    let first = low y refl in
    let second = high z refl in
    omega (arith, same, first, second)

-- the least value of the ways is no less than the least of their bounds
least_no_less : (value : Way → Option ℕ) (bound : Way → ℕ) (t : ℕ) (es : List Entry) → All (λ (e : Entry). IsNoLess (t + bound e.way) (value e.way)) es
    → IsNoLess (t + least_of bound es) (least_in value es)
least_no_less value bound t [] each x e = absurd (cc e)
least_no_less value bound t (entry ∷ es) each x e =
    let rest = least_no_less value bound t es (λ k d lt. each (suc k) d (omega (arith, lt))) in
    let here = lesser_no_less (t + bound entry.way) (t + least_of bound es) (value entry.way) (least_in value es) (each 0 entry (omega arith)) rest x e in
    omega (arith, here)

-- a second half behind a first takes no less than both
then_no_less : (t one two : ℕ) (first : Option ℕ) (second : ℕ → Option ℕ) → t < day → IsNoLess (t + one) first → ((s : ℕ) → IsNoLess (s + two) (second s))
    → IsNoLess (t + min (one + two) far) (then_at first second)
then_no_less t one two None second in_day low high x e = absurd (cc e)
then_no_less t one two (Some s) second in_day low high x e = onward (second s) (high s) e
  where
    onward : (o : Option ℕ) → IsNoLess (s + two) o → option_map (λ (y : ℕ). min y (2 ^ 62)) o ≡ Some x → t + min (one + two) far ≤ x
    onward None more e = absurd (cc e)
    onward (Some y) more e =
        let same : min y (2 ^ 62) ≡ x = cc e in
        let first = low s refl in
        let last = more y refl in
        omega (arith, in_day, same, first, last)

-- whole days more add as much
days_no_less : (days t least : ℕ) (value : Option ℕ) → IsNoLess (t + least) value → IsNoLess (days + t + least) (option_map (λ (y : ℕ). days + y) value)
days_no_less days t least None low x e = absurd (cc e)
days_no_less days t least (Some y) low x e =
    let same : days + y ≡ x = cc e in
    let here = low y refl in
    omega (arith, same, here)

module _ (h : HierarchyValue) (sound : IsHierarchy h) where
  way_no_less : (fuel u v t : ℕ) (way : Way) → t < day → IsWellFormed h u v way → ((x y s : ℕ) → IsNoLess (s + bound_by (road_bound h.network) h fuel x y) (rebuilt_by h fuel x y s))
      → IsNoLess (t + way_bound (road_bound h.network) (bound_by (road_bound h.network) h fuel) u v way) (value_by h.network (rebuilt_by h fuel) u v t way)
  way_no_less fuel u v t (Road a) in_day formed halves x e =
      let takes = road_takes h.network h.order sound.network a u v t formed in
      subst (λ (y : ℕ). t + road_bound h.network a ≤ y) (cc e) takes
  way_no_less fuel u v t (Via m) in_day formed halves x e =
      then_no_less t (bound_by (road_bound h.network) h fuel u m) (bound_by (road_bound h.network) h fuel m v) (rebuilt_by h fuel u m t) (rebuilt_by h fuel m v) in_day
      (halves u m t) (halves m v) x e

  by_fuel : (fuel u v t : ℕ) → IsNoLess (t + bound_by (road_bound h.network) h fuel u v) (rebuilt_by h fuel u v t)
  by_fuel zero u v t x e = absurd (cc e)
  by_fuel (suc fuel) u v t x e =
      let in_day = mod_below t day (omega arith) in
      let bound = way_bound (road_bound h.network) (bound_by (road_bound h.network) h fuel) u v in
      let each : All (λ (entry : Entry). IsNoLess (t % day + bound entry.way) (value_by h.network (rebuilt_by h fuel) u v (t % day) entry.way)) (list_from h u v) =
      λ k d lt. way_no_less fuel u v (t % day) _ in_day (list_formed h sound u v k d lt) (by_fuel fuel) in
      let least = least_of (way_bound (road_bound h.network) (bound_by (road_bound h.network) h fuel) u v) (list_from h u v) in
      let value = least_in (value_by h.network (rebuilt_by h fuel) u v (t % day)) (list_from h u v) in
      let days = day * (t / day) in
      let parts = div-add-mod' t day in
      let whole : days + t % day ≡ t = omega (arith, parts) in
      subst (λ (s : ℕ). IsNoLess (s + least) (option_map (λ (y : ℕ). days + y) value)) whole
      (days_no_less days (t % day) least value
      (least_no_less (value_by h.network (rebuilt_by h fuel) u v (t % day)) (way_bound (road_bound h.network) (bound_by (road_bound h.network) h fuel) u v) (t % day) (list_from h u v) each)) x e

  -- the way by a middle takes no less than the least bounds of both its halves, up to `far`
  pub middle_takes : (u v m t x : ℕ) → t < day → ArrivesIn h u v t (Via m) x → t + min (bound_from h u m + bound_from h m v) far ≤ x
  middle_takes u v m t x in_day =
      then_no_less t (bound_from h u m) (bound_from h m v) (rebuilt h u m t) (rebuilt h m v) in_day (by_fuel (suc (min u m)) u m t) (by_fuel (suc (min m v)) m v) x

-- the least bound of an edge's list is that of the list between its ends
pub bound_of_ends : (h : HierarchyValue) (edge : ℕ) (dir : Dir) (ends : Ends) → slice_get h.edges edge ≡ Some ends → least_bound h edge dir ≡ bound_from h (start_of ends dir) (end_of ends dir)
bound_of_ends h edge dir ends at = ap (λ (o : Option Ends). bound_ends (road_bound h.network) h o dir) at
