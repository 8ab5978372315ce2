-- A list arrives no sooner than its least bound lets it.
use Rattle.std.proofs.Common.{◌≡◌, ◌≢◌, ◌≤◌, ◌<◌, ◌+◌, ◌*◌, ◌/◌, ◌%◌, ◌∙◌, ◌^◌, ℕ, zero, suc, List, [], ◌∷◌, Option, Some, None, refl, ap, arith, min}
use Rattle.std.specs.Prelude.{All, option_map, slice_get}
use Rattle.std.proofs.lemmas.Nat.{div-add-mod', mod_below}
use Rattle.cu_model.specs.Days.{day}
use Rattle.cu_model.specs.Roads.{drive}
use Rattle.cu_chordal.specs.declared.graph.Ends.{Ends}
use Rattle.cu_chordal.specs.Graphs.{HasEdge}
use Rattle.cu_chordal.proofs.Members.{place_of}
use Rattle.cu_interval.specs.declared.ways.Dir.{Dir}
use Rattle.cu_interval.specs.declared.ways.Entry.{Entry}
use Rattle.cu_interval.specs.declared.ways.Way.{Way}
use Rattle.cu_interval.specs.declared.ways.Way.TheVariants.{Road, Via}
use Rattle.cu_interval.specs.Hierarchies.{HierarchyValue, IsHierarchy, IsWellFormed, end_of, list_from, number_from, start_of}
use Rattle.cu_interval.specs.LeastBounds.{bound_by, bound_ends, bound_from, least_bound, least_of, road_bound, way_bound}
use Rattle.cu_interval.specs.Resettling.{least_in, lesser_of, rebuilt_by, then_at, value_by}
use Rattle.cu_interval.proofs.BoundLaws.{road_takes}
use Rattle.cu_interval.proofs.Lookups.{list_formed, number_finds}
use Rattle.cu_day.specs.DayChains.{list_drive, within_limit}

-- a value is there, and no sooner than a second
abbrev Takes : ℕ → Option ℕ → Type 0
Takes soonest value = (v : ℕ) × (value ≡ Some v) × (soonest ≤ v)

-- so is the least of a list whose values are
least_takes : (value : Way → Option ℕ) (bound : Way → ℕ) (t : ℕ) (es : List Entry) → All (λ (e : Entry). Takes (t + bound e.way) (value e.way)) es
    → es ≢ [] → Takes (t + least_of bound es) (least_in value es)
least_takes value bound t [] all some = absurd (some refl)
least_takes value bound t (e ∷ []) all some =
    let (v, is, le) = all 0 e (omega arith) in
    (v, ap (λ (o : Option ℕ). lesser_of o None) is, omega (arith, le))
least_takes value bound t (e ∷ (next ∷ es)) all some =
    let (v, is, le) = all 0 e (omega arith) in
    let (r, at, rest) = least_takes value bound t (next ∷ es) (λ k d lt. all (suc k) d (omega (arith, lt))) (λ none. absurd (cc none)) in (
      min v r,
      ap (λ (o : Option ℕ). lesser_of o (least_in value (next ∷ es))) is ∙ ap (λ (o : Option ℕ). lesser_of (Some v) o) at,
      omega (arith, le, rest),
    )

module _ (h : HierarchyValue) (f : IsHierarchy h) where
  way_takes : (fuel u v t : ℕ) → t < day → (way : Way) → IsWellFormed h u v way
      → ((x y s : ℕ) → min x y < min u v → list_from h x y ≢ [] → Takes (s + bound_by (road_bound h.network) h fuel x y) (rebuilt_by h fuel x y s))
      → Takes (t + way_bound (road_bound h.network) (bound_by (road_bound h.network) h fuel) u v way) (value_by h.network (rebuilt_by h fuel) u v t way)
  way_takes fuel u v t within (Road a) formed lower =
      (drive h.network (a ∷ []) t, refl, road_takes h.network h.order f.network a u v t formed)
  way_takes fuel u v t within (Via m) formed lower =
      let mu = formed.0 in
      let mv = formed.1 in
      let (x, to, first) = lower u m t (omega (arith, mu, mv)) formed.4 in
      let (y, on, second) = lower m v x (omega (arith, mu, mv)) formed.5 in (
        min y (2 ^ 62),
        ap (λ (o : Option ℕ). then_at o (rebuilt_by h fuel m v)) to ∙ ap (λ (o : Option ℕ). option_map (λ y. min y (2 ^ 62)) o) on,
        omega (arith, first, second, within),
      )

  takes_by : (fuel u v t : ℕ) → min u v < fuel → list_from h u v ≢ []
      → Takes (t + bound_by (road_bound h.network) h fuel u v) (rebuilt_by h fuel u v t)
  takes_by zero u v t lt some = absurd (omega (arith, lt))
  takes_by (suc fuel) u v t lt some =
      let s = t % day in
      let early = mod_below t day (omega arith) in
      let parts = div-add-mod' t day in
      let (value, is, le) = least_takes (value_by h.network (rebuilt_by h fuel) u v s)
      (way_bound (road_bound h.network) (bound_by (road_bound h.network) h fuel) u v) s (list_from h u v)
      (λ k d within. way_takes fuel u v s early _ (list_formed h f u v k d within)
      (λ x y r less list. takes_by fuel x y r (omega (arith, less, lt)) list)) some in (
        day * (t / day) + value,
        ap (λ (o : Option ℕ). option_map (λ later. day * (t / day) + later) o) is,
        omega (arith, le, parts),
      )

  -- the list from one rank to another, as far as it is told
  pub list_takes : (u v t : ℕ) → list_from h u v ≢ [] → min (t + bound_from h u v) (2 ^ 62) ≤ list_drive h u v t
  list_takes u v t some =
      let (value, is, le) = takes_by (suc (min u v)) u v t (omega arith) some in
      let same = ap within_limit is in
      omega (arith, le, same)

  -- the bound of an edge is that between its ends
  pub edge_bound : (edge : ℕ) (dir : Dir) (ends : Ends) → slice_get h.edges edge ≡ Some ends
      → least_bound h edge dir ≡ bound_from h (start_of ends dir) (end_of ends dir)
  edge_bound edge dir ends at = ap (λ (o : Option Ends). bound_ends (road_bound h.network) h o dir) at

  -- an edge has a number
  pub edge_number : (low high : ℕ) → HasEdge h.edges low high
      → (edge : ℕ) × (number_from 0 h.edges low high ≡ Some edge) × (slice_get h.edges edge ≡ Some (record { low = low; high = high }))
  edge_number low high has =
      let (edge, at) = place_of h.edges (record { low = low; high = high }) has in
      (edge, number_finds h.edges f.graph.rising low high (Some edge) at, at)
