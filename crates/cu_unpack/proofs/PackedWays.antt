-- Ways as packed runs: when they arrive, that packed runs can say it, and what a merger holds of the first ways of a list.
use Rattle.std.proofs.Common.{◌≡◌, ◌≢◌, ◌≤◌, ◌<◌, ◌+◌, ◌^◌, ◌∙◌, ◌-◌, ℕ, zero, suc, List, [], ◌∷◌, ◌++◌, Option, Some, refl, sym, ap, subst, arith, length, min, take, get_or}
use Rattle.std.specs.Prelude.{slice_get}
use Rattle.std.proofs.lemmas.Option.{slice_get-get_or}
use Rattle.cu_model.specs.Days.{day, IsOnward}
use Rattle.cu_model.specs.Networks.{NetworkValue, IsNetwork}
use Rattle.cu_model.specs.Roads.{arc_value}
use Rattle.cu_model.proofs.DayLaws.{onward_always}
use Rattle.cu_model.proofs.RoadLaws.{arc_value-near, arc_value-onward}
use Rattle.cu_model.proofs.OptionLaws.{same_value}
use Rattle.cu_arrival.specs.declared.runs.Run.{Run}
use Rattle.cu_arrival.specs.declared.runs.RunRule.{RunRule}
use Rattle.cu_arrival.specs.declared.runs.RunRule.TheVariants.{Shift}
use Rattle.cu_arrival.specs.Runs.{arrival_value, arrives}
use Rattle.cu_runs.specs.declared.packed_runs.TheConstants.{MAX_NUMBER}
use Rattle.cu_runs.specs.Least.{Held, least_arrival}
use Rattle.cu_runs.specs.Travels.{TakeLonger, TakesAtMost}
use Rattle.cu_runs.specs.PackedRuns.{IsPackedFunction, composed}
use Rattle.cu_runs.proofs.DayLists.{repeats}
use Rattle.cu_runs.proofs.TravelLaws.{most_always}
use Rattle.cu_chordal.specs.declared.graph.Ends.{Ends}
use Rattle.cu_interval.specs.declared.ways.Dir.{Dir}
use Rattle.cu_interval.specs.declared.ways.Dir.TheVariants.{Up, Down}
use Rattle.cu_interval.specs.declared.ways.Entry.{Entry}
use Rattle.cu_interval.specs.declared.ways.Way.TheVariants.{Road, Via}
use Rattle.cu_interval.specs.Hierarchies.{HierarchyValue, IsHierarchy, IsWellFormed, list_number, start_of, end_of}
use Rattle.cu_interval.specs.Resettling.{least_in, lesser_of, rebuilt}
use Rattle.cu_interval.specs.declared.shortcuts.Shortcut.{Shortcut}
use Rattle.cu_interval.specs.Shortcuts.{AreHalves, number_of, ways_of}
use Rattle.cu_unpack.specs.RebuiltRuns.{IsFarWay, IsKnownList, IsNeeded, IsRebuiltRuns, IsSized, KeepsPacked, PackedValue}
use Rattle.cu_unpack.specs.Steps.Rebuilding.{HasHalves, HasValues, IsAmong, IsWayOf, way_value}
use Rattle.cu_unpack.specs.Steps.PackedRebuilding.{Adds, AddsWay, HasPacked, HoldsLeast, IsInTime, IsKnown, IsLeastRuns, IsStay}
use Rattle.cu_unpack.proofs.HalfEdges.{halves_lower, halves_sides}
use Rattle.cu_unpack.proofs.KnownLists.{known_packed}
use Rattle.cu_unpack.proofs.Learning.{needs_itself, needs_side}
use Rattle.cu_unpack.proofs.WayFunctions.{least_in-again, least_in-more, lesser_of-none, values_rebuilt, via_value}

-- a run that takes no time is that of staying
pub stays : (rule : RunRule) (packed : List Run) → rule ≡ Shift 0 → IsPackedFunction packed → ((t : ℕ) → t < day → arrival_value packed t ≡ arrives rule t) → IsStay packed
stays rule packed no_time function value = record {
  function = function;
  stays = λ t lt. let at = value t lt ∙ ap (λ (r : RunRule). arrives r t) no_time in omega (arith, at);
}

-- a road alone
pub adds_road : (g : NetworkValue) → IsNetwork g → (road : ℕ) → road < length g.arcs → (stay packed : List Run) (before now : List Held) → IsStay stay
    → ((t : ℕ) → t < day → arrival_value packed t ≡ arc_value g road t)
    → ((t : ℕ) → t < day → least_arrival now t ≡ min (least_arrival before t) (composed stay packed t)) → Adds (arc_value g road) before now
adds_road g is road inside stay packed before now stays value least t lt =
    let near = arc_value-near g is road inside t in
    let onward = arc_value-onward g is road inside t in
    let at : composed stay packed t ≡ arc_value g road t = ap (arrival_value packed) (stays.stays t lt) ∙ value t lt in
    ((onward, omega (arith, near, lt)), least t lt ∙ ap (min (least_arrival before t)) at)

-- two functions, one after the other
pub both_in_time : (first second : List Run) (a b : ℕ) → IsPackedFunction first → IsPackedFunction second → IsOnward (arrival_value first) → IsOnward (arrival_value second)
    → TakesAtMost first a → TakesAtMost second b → a + b + day ≤ MAX_NUMBER → (t : ℕ) → t < day → IsInTime t (composed first second t)
both_in_time first second a b one two to on within beyond few t lt =
    let there = arrival_value first t in
    let onward = onward_always (arrival_value second) (repeats second two.over_day) on there in
    let leaves = to t lt in
    let near = within t lt in
    let far = most_always second b two beyond there in
    (omega (arith, leaves, onward), omega (arith, near, far, few, lt))

-- the road is a way
pub adds_road_way : (h : HierarchyValue) (shortcut : Shortcut) (road : ℕ) (before now : List Held) → Adds (arc_value h.network road) before now → AddsWay h shortcut (Road road) before now
adds_road_way h shortcut road before now adds = (arc_value h.network road, adds, λ ends at t lt. refl)

-- the rebuilt values of halves
half_down : (h : HierarchyValue) (edge m u : ℕ) (dir : Dir) (packed : List Run) → IsRebuiltRuns h edge dir (Some packed) → dir ≡ Down → slice_get h.edges edge ≡ Some (record { low = m; high = u })
    → (t : ℕ) → rebuilt h u m t ≡ Some (arrival_value packed t)
half_down h edge m u Down packed is down at = is.3 (record { low = m; high = u }) at
half_down h edge m u Up packed is down at = absurd (cc down)

half_up : (h : HierarchyValue) (edge m v : ℕ) (dir : Dir) (packed : List Run) → IsRebuiltRuns h edge dir (Some packed) → dir ≡ Up → slice_get h.edges edge ≡ Some (record { low = m; high = v })
    → (t : ℕ) → rebuilt h m v t ≡ Some (arrival_value packed t)
half_up h edge m v Up packed is up at = is.3 (record { low = m; high = v }) at
half_up h edge m v Down packed is up at = absurd (cc up)

-- a way by a middle, whose halves are known
module _ (h : HierarchyValue) (f : IsHierarchy h) (value : PackedValue) (size : IsSized (length h.edges) value) (whole first second : Shortcut) (m : ℕ)
    (keeps : KeepsPacked h (IsNeeded h.edges whole.edge) value) (way : IsWayOf h whole (Via m)) (known : HasHalves h (IsKnown value) whole (Via m)) (halves : AreHalves h whole m first second) where
  first_needed : IsNeeded h.edges whole.edge first.edge
  first_needed = needs_side h.edges whole.edge whole.edge first.edge (needs_itself h.edges whole.edge) (halves_sides h whole first second m halves).0

  second_needed : IsNeeded h.edges whole.edge second.edge
  second_needed = needs_side h.edges whole.edge whole.edge second.edge (needs_itself h.edges whole.edge) (halves_sides h whole first second m halves).1

  pub first_packed : HasPacked value first
  first_packed = known_packed h whole.edge value size keeps first (halves_lower h f whole first second m way halves).0.0 first_needed (known first second halves).0

  pub second_packed : HasPacked value second
  second_packed = known_packed h whole.edge value size keeps second (halves_lower h f whole first second m way halves).1.0 second_needed (known first second halves).1

  first_rebuilt : (packed : List Run) → slice_get value.functions (number_of first) ≡ Some (Some packed) → IsRebuiltRuns h first.edge first.dir (Some packed)
  first_rebuilt packed at = keeps first.edge first.dir first_needed (known first second halves).0 (Some packed) at

  second_rebuilt : (packed : List Run) → slice_get value.functions (number_of second) ≡ Some (Some packed) → IsRebuiltRuns h second.edge second.dir (Some packed)
  second_rebuilt packed at = keeps second.edge second.dir second_needed (known first second halves).1 (Some packed) at

  pub adds_via : (to on : List Run) → slice_get value.functions (number_of first) ≡ Some (Some to) → slice_get value.functions (number_of second) ≡ Some (Some on)
      → (before now : List Held) → Adds (composed to on) before now → AddsWay h whole (Via m) before now
  adds_via to on to_at on_at before now adds = (
    composed to on,
    adds,
    λ ends at t lt.
        let same : halves.ends ≡ ends = same_value (slice_get h.edges whole.edge) halves.ends ends halves.at at in
        let same_way : way.0 ≡ ends = same_value (slice_get h.edges whole.edge) way.0 ends way.1 at in
        let formed = subst (λ (e : Ends). IsWellFormed h (start_of e whole.dir) (end_of e whole.dir) (Via m)) same_way way.2 in
        let u = start_of ends whole.dir in
        let v = end_of ends whole.dir in
        let low : slice_get h.edges first.edge ≡ Some (record { low = m; high = u }) =
        subst (λ (e : Ends). slice_get h.edges first.edge ≡ Some (record { low = m; high = start_of e whole.dir })) same halves.to in
        let high : slice_get h.edges second.edge ≡ Some (record { low = m; high = v }) =
        subst (λ (e : Ends). slice_get h.edges second.edge ≡ Some (record { low = m; high = end_of e whole.dir })) same halves.onward in
        let by = via_value h f u v m formed.0 formed.1 to on (half_down h first.edge m u first.dir to (first_rebuilt to to_at) halves.down low)
        (half_up h second.edge m v second.dir on (second_rebuilt on on_at) halves.up high) t in
        let few = (adds t lt).0.1 in
        let small : min (composed to on t) (2 ^ 62) ≡ composed to on t = omega (arith, few) in
        by ∙ ap Some small,
  )

  -- where both take long it is a far way
  pub far_via : (to on : List Run) → slice_get value.functions (number_of first) ≡ Some (Some to) → slice_get value.functions (number_of second) ≡ Some (Some on)
      → TakeLonger (MAX_NUMBER - day) (Some (arrival_value to)) (Some (arrival_value on)) → IsFarWay h value whole.edge whole.dir (Via m)
  far_via to on to_at on_at longer =
      let first_at : slice_get value.functions (list_number first.edge Down) ≡ Some (Some to) =
      subst (λ (d : Dir). slice_get value.functions (list_number first.edge d) ≡ Some (Some to)) halves.down to_at in
      let second_at : slice_get value.functions (list_number second.edge Up) ≡ Some (Some on) =
      subst (λ (d : Dir). slice_get value.functions (list_number second.edge d) ≡ Some (Some on)) halves.up on_at in
      let both = known first second halves in
      record {
        ends = halves.ends;
        at = halves.at;
        first = first.edge;
        to = halves.to;
        first_known = subst (λ (d : Dir). IsKnownList value (list_number first.edge d)) halves.down both.0;
        second = second.edge;
        onward = halves.onward;
        second_known = subst (λ (d : Dir). IsKnownList value (list_number second.edge d)) halves.up both.1;
        longer = rw (first_at, second_at) longer;
      }

module _ (h : HierarchyValue) (shortcut : Shortcut) where
  -- one more way is held
  pub holds_more : (entries : List Entry) (entry : Entry) (before now : List Held) → HoldsLeast h shortcut entries before
      → AddsWay h shortcut entry.way before now → HoldsLeast h shortcut (entries ++ entry ∷ []) now
  holds_more [] entry before now held (value, adds, is) = λ ends at t lt.
      let (near, least) = adds t lt in
      let none = held t lt in
      let now_is : least_arrival now t ≡ value t = omega (arith, near.1, least, none) in (
        lesser_of-none (way_value h (start_of ends shortcut.dir) (end_of ends shortcut.dir) t entry.way) ∙ is ends at t lt ∙ ap Some (sym now_is),
        (omega (arith, near.0, now_is), omega (arith, near.1, now_is)),
      )
  holds_more (e ∷ entries) entry before now held (value, adds, is) = λ ends at t lt.
      let (near, least) = adds t lt in
      let (old, old_near) = held ends at t lt in
      let ways = way_value h (start_of ends shortcut.dir) (end_of ends shortcut.dir) t in (
        least_in-more ways (e ∷ entries) entry ∙ ap (λ (o : Option ℕ). lesser_of o (ways entry.way)) old ∙ ap (λ (o : Option ℕ). lesser_of (Some (least_arrival before t)) o) (is ends at t lt)
            ∙ ap Some (sym least),
        (omega (arith, near.0, old_near.0, least), omega (arith, near.1, least)),
      )

  holds_once : (entries : List Entry) (j : ℕ) (again : Entry) (held : List Held) → slice_get entries j ≡ Some again
      → IsAmong entries j again.way → HoldsLeast h shortcut (take j entries) held → HoldsLeast h shortcut (take (suc j) entries) held
  holds_once [] j again held later among is = absurd (cc later)
  holds_once (e ∷ entries) zero again held later (i, first, lt, there, same) is = absurd (omega (arith, lt))
  holds_once (e ∷ entries) (suc j) again held later (i, first, lt, there, same) is = λ ends at t within.
      let (old, near) = is ends at t within in (
        least_in-again (way_value h (start_of ends shortcut.dir) (end_of ends shortcut.dir) t) (e ∷ entries) i (suc j) first again lt there later same ∙ old,
        near,
      )

  -- and so is one that was there already
  pub holds_again : (entries : List Entry) (j : ℕ) (again : Entry) (held : List Held) → slice_get entries j ≡ Some again
      → IsAmong entries j again.way → HoldsLeast h shortcut (take j entries) held → HoldsLeast h shortcut (take (j + 1) entries) held
  holds_again entries j again held later among is =
      let next : suc j ≡ j + 1 = omega arith in
      subst (λ (n : ℕ). HoldsLeast h shortcut (take n entries) held) next (holds_once entries j again held later among is)

  -- what is held of some ways is in time
  pub held_in_time : (entries : List Entry) (held : List Held) → shortcut.edge < length h.edges → entries ≢ [] → HoldsLeast h shortcut entries held
      → (t : ℕ) → t < day → IsInTime t (least_arrival held t)
  held_in_time [] held lt some is t within = absurd (some refl)
  held_in_time (e ∷ entries) held lt some is t within =
      let none : Ends = record { low = 0; high = 0 } in
      (is (get_or h.edges shortcut.edge none) (slice_get-get_or h.edges shortcut.edge none lt) t within).1

  held_values : (entries : List Entry) (held : List Held) (packed : List Run) → entries ≢ [] → HoldsLeast h shortcut entries held
      → ((t : ℕ) → t < day → arrival_value packed t ≡ least_arrival held t) → (ends : Ends) → slice_get h.edges shortcut.edge ≡ Some ends
      → HasValues packed (λ t. least_in (way_value h (start_of ends shortcut.dir) (end_of ends shortcut.dir) t) entries)
  held_values [] held packed some is value ends at t lt = absurd (some refl)
  held_values (e ∷ entries) held packed some is value ends at t lt = (is ends at t lt).0 ∙ ap Some (sym (value t lt))

-- the least of all ways of a shortcut is its function
pub held_rebuilt : (h : HierarchyValue) → IsHierarchy h → (shortcut : Shortcut) (held : List Held) (packed : List Run) → ways_of h shortcut ≢ [] → HoldsLeast h shortcut (ways_of h shortcut) held
    → IsLeastRuns held packed → IsRebuiltRuns h shortcut.edge shortcut.dir (Some packed)
held_rebuilt h f shortcut held packed some is least = (
  some,
  least.function,
  least.onward,
  λ ends at t. values_rebuilt h f shortcut packed (repeats packed least.function.over_day) ends at (held_values h shortcut (ways_of h shortcut) held packed some is least.value ends at) t,
)
