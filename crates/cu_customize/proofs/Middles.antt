-- A middle among the candidates of a list: both halves by the functions before the list.
use Rattle.std.proofs.Common.{◌≡◌, ◌≤◌, ◌<◌, ◌+◌, ◌-◌, ◌^◌, ◌∙◌, ℕ, List, Option, Some, None, refl, ap, subst, arith, inl, inr, length, get_or, map, max, min}
use Rattle.std.specs.Prelude.{slice_get}
use Rattle.std.specs.List.{Contains}
use Rattle.std.specs.Option.{option_map}
use Rattle.std.proofs.lemmas.Bool.{ltb-true}
use Rattle.std.proofs.lemmas.List.Elements.{All-contains, Contains-append_right}
use Rattle.cu_model.specs.Days.{day, IsOnward}
use Rattle.cu_model.specs.Networks.{NetworkValue}
use Rattle.cu_model.proofs.OptionLaws.{none_some}
use Rattle.cu_arrival.specs.declared.runs.Run.{Run}
use Rattle.cu_arrival.specs.Runs.{arrival_value}
use Rattle.cu_chordal.specs.declared.graph.Ends.{Ends}
use Rattle.cu_chordal.specs.Graphs.{FindsEdge}
use Rattle.cu_interval.specs.declared.ways.Dir.TheVariants.{Up, Down}
use Rattle.cu_interval.specs.declared.ways.Way.TheVariants.{Road, Via}
use Rattle.cu_interval.specs.Hierarchies.{list_number}
use Rattle.cu_interval.specs.declared.shortcuts.Leg.{Leg}
use Rattle.cu_customize.specs.declared.task.Task.{Task}
use Rattle.cu_customize.specs.declared.triangles.Triangle.{Triangle}
use Rattle.cu_runs.specs.declared.windows.TheConstants.{WINDOWS}
use Rattle.cu_runs.specs.declared.windows.Windows.{Windows}
use Rattle.cu_runs.specs.declared.packed_runs.TheConstants.{MAX_NUMBER}
use Rattle.cu_runs.specs.Layers.{value_kept}
use Rattle.cu_runs.specs.Least.{Held, least_arrival, least_way, way_with, IsAddedWithin}
use Rattle.cu_customize.specs.Settling.{function_from, through}
use Rattle.cu_runs.specs.Travels.{TakeLonger, Takes, TakesAtLeast, TakesAtMost}
use Rattle.cu_customize.specs.Steps.Gathering.{AreLimits, ArrivesIn, FindsHalves, Gathers, HasBy, HasHalves, HasTriangles, IsBeaten, IsBound, IsFar, IsLower, IsNear, IsTask, state_of, ways_of}
use Rattle.cu_customize.specs.Triangles.{IsTriangle, middles_in}
use Rattle.cu_runs.specs.PackedRuns.{IsPackedFunction, composed}
use Rattle.cu_runs.proofs.AddLaws.{composed_order}
use Rattle.cu_customize.proofs.Gathers.{HasFunction, at_once, gathers_at, gathers_none, gathers_one}
use Rattle.cu_customize.proofs.Loops.{member_map}
use Rattle.cu_runs.proofs.SeenLaws.{window_found}
use Rattle.cu_runs.specs.Windows.{TakesInWindows}
use Rattle.cu_runs.proofs.WindowLaws.{starts_in_day}
use Rattle.cu_runs.proofs.TravelLaws.{least_always, most_always, take_longer}
use Rattle.cu_customize.proofs.Halves.{both_some, first_is, knows_first, knows_second, second_is}

-- what may be settled has triangles
pub task_triangles : (g : NetworkValue) (task : Task) → IsTask g task → HasTriangles g task
task_triangles g task is = record { chordal = is.chordal; triangles = is.triangles; below = is.below; halves = is.halves }

module _ (g : NetworkValue) (task : Task) (is : HasTriangles g task) (m : ℕ) (below : (m < task.leg.from) × (m < task.leg.to)) where
  module _ (e d : ℕ) (one : FindsEdge task.graph.now.edges m task.leg.from (Some e)) (two : FindsEdge task.graph.now.edges m task.leg.to (Some d)) where
    -- both halves are among the functions that are kept
    pub first_kept : list_number e Down < length task.functions.now
    first_kept =
        ltb-true (list_number e Down) (length task.functions.now)
        (knows_first task.graph.now.edges (state_of g task) task.leg.from task.leg.to m is.chordal.rising below is.halves e d one two)

    pub second_kept : list_number d Up < length task.functions.now
    second_kept =
        ltb-true (list_number d Up) (length task.functions.now)
        (knows_second task.graph.now.edges (state_of g task) task.leg.from task.leg.to m is.chordal.rising below is.halves e d one two)

    -- what is read of them by a list's number
    half_first : (n : ℕ) (kept : Option (List Run)) → n ≡ list_number e Down → slice_get task.functions.now n ≡ Some kept
        → function_from task.graph.now.edges (state_of g task) task.leg.from m ≡ option_map arrival_value kept
    half_first n kept same there =
        first_is task.graph.now.edges (state_of g task) task.leg.from task.leg.to m is.chordal.rising below e one
        ∙ ap value_kept (subst (λ (i : ℕ). slice_get task.functions.now i ≡ Some kept) same there)

    half_second : (n : ℕ) (kept : Option (List Run)) → n ≡ list_number d Up → slice_get task.functions.now n ≡ Some kept
        → function_from task.graph.now.edges (state_of g task) m task.leg.to ≡ option_map arrival_value kept
    half_second n kept same there =
        second_is task.graph.now.edges (state_of g task) task.leg.from task.leg.to m is.chordal.rising below d two
        ∙ ap value_kept (subst (λ (i : ℕ). slice_get task.functions.now i ≡ Some kept) same there)

    pub no_first_function : (n : ℕ) (kept : Option (List Run)) → n ≡ list_number e Down → slice_get task.functions.now n ≡ Some kept → kept ≡ None → FindsHalves g task m None
    no_first_function n kept same there none free =
        none_some (function_from task.graph.now.edges (state_of g task) task.leg.from m) (half_first n kept same there ∙ ap (option_map arrival_value) none) free.0

    pub no_second_function : (n : ℕ) (kept : Option (List Run)) → n ≡ list_number d Up → slice_get task.functions.now n ≡ Some kept → kept ≡ None → FindsHalves g task m None
    no_second_function n kept same there none free =
        none_some (function_from task.graph.now.edges (state_of g task) m task.leg.to) (half_second n kept same there ∙ ap (option_map arrival_value) none) free.1

    pub first_found : (n : ℕ) (kept : Option (List Run)) (a : List Run) → n ≡ list_number e Down → slice_get task.functions.now n ≡ Some kept → kept ≡ Some a
        → function_from task.graph.now.edges (state_of g task) task.leg.from m ≡ Some (arrival_value a)
    first_found n kept a same there some = half_first n kept same there ∙ ap (option_map arrival_value) some

    pub second_found : (n : ℕ) (kept : Option (List Run)) (b : List Run) → n ≡ list_number d Up → slice_get task.functions.now n ≡ Some kept → kept ≡ Some b
        → function_from task.graph.now.edges (state_of g task) m task.leg.to ≡ Some (arrival_value b)
    second_found n kept b same there some = half_second n kept same there ∙ ap (option_map arrival_value) some

-- a way by a middle that has no function is near
pub near_none : (g : NetworkValue) (task : Task) (m : ℕ) → FindsHalves g task m None → IsNear g task (Via m)
near_none g task m none t arrival lt at =
    absurd (none (both_some (function_from task.graph.now.edges (state_of g task) task.leg.from m) (function_from task.graph.now.edges (state_of g task) m task.leg.to) t arrival at))

-- and so is one whose halves don't take long
pub near_some : (g : NetworkValue) (task : Task) (m one two most : ℕ) (a b : List Run)
    → (function_from task.graph.now.edges (state_of g task) task.leg.from m ≡ Some (arrival_value a)) × (function_from task.graph.now.edges (state_of g task) m task.leg.to ≡ Some (arrival_value b))
    → IsPackedFunction b → IsOnward (arrival_value a) → IsOnward (arrival_value b) → TakesAtMost a one → TakesAtMost b two
    → most ≡ min (one + two) (2 ^ 64 - 1) → most ≤ MAX_NUMBER - day → IsNear g task (Via m)
near_some g task m one two most a b halves good late early soon quick is_most few t arrival lt at =
    let capped : through (function_from task.graph.now.edges (state_of g task) task.leg.from m)
    (function_from task.graph.now.edges (state_of g task) m task.leg.to) t ≡ Some (min (composed a b t) (2 ^ 62)) =
    rw (halves.0, halves.1) refl in
    let same : min (composed a b t) (2 ^ 62) ≡ arrival = cc (capped, at) in
    let to = late t lt in
    let on = least_always b 0 good (λ s h. let up = early s h in omega (arith, up)) (arrival_value a t) in
    let by = soon t lt in
    let then = most_always b two good quick (arrival_value a t) in
    (omega (arith, same, to, on, lt), omega (arith, same, by, then, is_most, few, lt))

-- where they do it is far
pub far_some : (g : NetworkValue) (task : Task) (m one two most : ℕ) (a b : List Run) → (m < task.leg.from) × (m < task.leg.to)
    → (function_from task.graph.now.edges (state_of g task) task.leg.from m ≡ Some (arrival_value a)) × (function_from task.graph.now.edges (state_of g task) m task.leg.to ≡ Some (arrival_value b))
    → Takes a one → Takes b two → most ≡ min (one + two) (2 ^ 64 - 1) → MAX_NUMBER - day < most → IsFar g task
far_some g task m one two most a b (from, to) (first, second) takes more is_most late =
    let far : TakeLonger (MAX_NUMBER - day) (Some (arrival_value a)) (Some (arrival_value b)) = take_longer a b one two most (MAX_NUMBER - day) takes more is_most late in
    (m, from, to, rw (first, second) far)

-- the way by a middle, of which both halves have a function
module _ (g : NetworkValue) (task : Task) (is : IsTask g task) (m : ℕ) (below : (m < task.leg.from) × (m < task.leg.to)) (a b : List Run)
    (halves : (function_from task.graph.now.edges (state_of g task) task.leg.from m ≡ Some (arrival_value a))
    × (function_from task.graph.now.edges (state_of g task) m task.leg.to ≡ Some (arrival_value b))) where
  middle_free : HasFunction g task (Via m)
  middle_free = (rw halves.0 refl, rw halves.1 refl)

  -- it arrives when the composition of both does
  middle_arrives : (t : ℕ) → t < day → ArrivesIn g task t (Via m) (composed a b t)
  middle_arrives t lt =
      let capped : ArrivesIn g task t (Via m) (min (composed a b t) (2 ^ 62)) = rw (halves.0, halves.1) refl in
      let few = (is.near m below.0 below.1 t (min (composed a b t) (2 ^ 62)) lt capped).1 in
      let same : min (composed a b t) (2 ^ 62) ≡ composed a b t = omega (arith, few) in
      subst (λ (x : ℕ). ArrivesIn g task t (Via m) x) same capped

  module _ (one : IsPackedFunction a) (two : IsPackedFunction b) where
    pub gathers_middle : (number : ℕ) (old new : List Held) → slice_get (ways_of task) number ≡ Some (Via m) → ((t : ℕ) → t < day → least_arrival new t ≡ min (least_arrival old t) (composed a b t))
        → ((t : ℕ) → t < day → least_way new t ≡ way_with old (composed a b t) number t) → Gathers g task (Via m) old new
    gathers_middle number old new there least_is way_is =
        gathers_one g task is (Via m) number old new (composed a b) there middle_free (is.near m below.0 below.1) (composed_order a b one two) middle_arrives least_is way_is

    -- it may be left out in windows where it takes longer than some candidate does
    pub gathers_within : (windows : Windows) (limits : List ℕ) (number : ℕ) (old new : List Held) → slice_get (ways_of task) number ≡ Some (Via m) → AreLimits g task windows limits
        → IsAddedWithin windows limits (composed a b) number old new → Gathers g task (Via m) old new
    gathers_within windows limits number old new there are added t lt =
        let (window, from, inside, within) = window_found windows 0 WINDOWS t (omega arith) (omega arith) lt in
        elim (added window t inside within) [
          | inl here ↦ gathers_at g task is (Via m) number old new (composed a b) t lt there middle_free (is.near m below.0 below.1) (composed_order a b one two) middle_arrives here
          | inr (still, above) ↦ gathers_none g task (Via m) old new t still (λ free. (
            t + get_or limits window 0,
            are window inside above.0 t within.0 within.1,
            λ arrival at.
                let same = at_once g task t (Via m) arrival (composed a b t) at (middle_arrives t lt) in
                let later = above.1 in
                omega (arith, same, later),
          ))
        ]

  -- what it takes at least in each window, by its halves and by its arrivals
  pub lower_by_halves : (windows : Windows) (lower : List ℕ) → TakesInWindows windows (composed a b) lower → IsLower g task windows m lower
  lower_by_halves windows lower takes window inside t arrival (late, early) at =
      let in_day = starts_in_day windows (window + 1) in
      let same = at_once g task t (Via m) arrival (composed a b t) at (middle_arrives t (omega (arith, early, in_day))) in
      let bound = takes window inside t late early in
      omega (arith, same, bound)

  pub halves_by_lower : (windows : Windows) (lower : List ℕ) → IsLower g task windows m lower → TakesInWindows windows (composed a b) lower
  halves_by_lower windows lower is_lower window inside t late early =
      let in_day = starts_in_day windows (window + 1) in
      is_lower window inside t (composed a b t) (late, early) (middle_arrives t (omega (arith, early, in_day)))

  -- some candidate is earlier where it takes longer at each second than one does
  pub slow_beaten : (most one two least t : ℕ) → t < day → IsBound g task most → IsPackedFunction b → TakesAtLeast a one → TakesAtLeast b two
      → least ≡ min (one + two) (2 ^ 64 - 1) → most < least → IsBeaten g task t (Via m)
  slow_beaten most one two least t lt bound good first second is_least slow =
      elim bound [
        | inl none ↦ absurd (omega (arith, none, is_least, slow))
        | inr within ↦ (
          t + most,
          within t lt,
          λ arrival at.
              let same = at_once g task t (Via m) arrival (composed a b t) at (middle_arrives t lt) in
              let to = first t lt in
              let on = least_always b two good second (arrival_value a t) in
              omega (arith, same, to, on, is_least, slow),
        )
      ]

  -- its arrivals are those of a candidate
  pub middle_by : Contains (middles_in task.triangles.now) m → (t by : ℕ) → t < day → composed a b t ≤ by → HasBy g task t by
  middle_by held t by lt soon = (
    Via m,
    (Contains-append_right (map Road task.arcs.now) (map Via (middles_in task.triangles.now)) (Via m) (member_map Via (middles_in task.triangles.now) m held), middle_free),
    (composed a b t, middle_arrives t lt, soon),
  )

  -- and it never takes longer than both halves do
  pub middle_bound : (one two most : ℕ) → Contains (middles_in task.triangles.now) m → IsPackedFunction b → TakesAtMost a one → TakesAtMost b two → most ≡ min (one + two) (2 ^ 64 - 1)
      → IsBound g task most
  middle_bound one two most held good first second is_most = inr (λ t lt.
      let to = first t lt in
      let on = most_always b two good second (arrival_value a t) in
      let near = (is.near m below.0 below.1 t (composed a b t) lt (middle_arrives t lt)).1 in
      middle_by held t (t + most) lt (omega (arith, to, on, near, is_most)))

-- the middle of a triangle is among a task's
pub triangle_middle : (task : Task) (triangle : Triangle) → Contains task.triangles.now triangle → Contains (middles_in task.triangles.now) triangle.middle
triangle_middle task triangle held = member_map (λ (t : Triangle). t.middle) task.triangles.now triangle held

-- and below both ends
pub triangle_below : (g : NetworkValue) (task : Task) → HasTriangles g task → (triangle : Triangle) → Contains task.triangles.now triangle
    → (triangle.middle < task.leg.from) × (triangle.middle < task.leg.to)
triangle_below g task is triangle held =
    All-contains (λ (x : ℕ). (x < task.leg.from) × (x < task.leg.to)) (middles_in task.triangles.now) triangle.middle is.below (triangle_middle task triangle held)

-- a triangle's edges lead to both ends
pub triangle_there : (g : NetworkValue) (task : Task) → HasTriangles g task → (triangle : Triangle) → Contains task.triangles.now triangle
    → IsTriangle task.graph.now.edges (min task.leg.from task.leg.to) (max task.leg.from task.leg.to) triangle
triangle_there g task is triangle held =
    All-contains (IsTriangle task.graph.now.edges (min task.leg.from task.leg.to) (max task.leg.from task.leg.to)) task.triangles.now triangle is.triangles held

-- by the numbers of its edges
module _ (edges : List Ends) (leg : Leg) (triangle : Triangle) (one : IsTriangle edges (min leg.from leg.to) (max leg.from leg.to) triangle) where
  pub halves_up : leg.from < leg.to → HasHalves edges leg triangle.middle (record { first = triangle.to_low; second = triangle.to_high })
  halves_up less =
      let low : min leg.from leg.to ≡ leg.from = omega (arith, less) in
      let high : max leg.from leg.to ≡ leg.to = omega (arith, less) in
      record {
        first = subst (λ (x : ℕ). FindsEdge edges triangle.middle x (Some triangle.to_low)) low one.to_low;
        second = subst (λ (x : ℕ). FindsEdge edges triangle.middle x (Some triangle.to_high)) high one.to_high;
      }

  pub halves_down : leg.to ≤ leg.from → HasHalves edges leg triangle.middle (record { first = triangle.to_high; second = triangle.to_low })
  halves_down more =
      let low : min leg.from leg.to ≡ leg.to = omega (arith, more) in
      let high : max leg.from leg.to ≡ leg.from = omega (arith, more) in
      record {
        first = subst (λ (x : ℕ). FindsEdge edges triangle.middle x (Some triangle.to_high)) high one.to_high;
        second = subst (λ (x : ℕ). FindsEdge edges triangle.middle x (Some triangle.to_low)) low one.to_low;
      }
