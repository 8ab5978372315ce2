-- The next list: what it is settled from, and what its gathered candidates are.
use Rattle.std.proofs.Common.{◌≡◌, ◌≢◌, ◌<◌, ◌+◌, ◌^◌, ◌∙◌, ◌++◌, ℕ, List, [], ◌∷◌, Option, Some, None, sym, subst, arith, inl, inr, length, map, min}
use Rattle.std.specs.Prelude.{All, slice_get}
use Rattle.std.specs.List.Sorted.{IsStrictlyIncreasing}
use Rattle.std.proofs.lemmas.List.{length-map, length-append}
use Rattle.std.proofs.lemmas.Option.{slice_get_within}
use Rattle.cu_model.specs.Days.{day}
use Rattle.cu_model.specs.Networks.{NetworkValue, IsNetwork}
use Rattle.cu_model.specs.Orders.{OrderValue, IsOrder}
use Rattle.cu_arrival.specs.declared.runs.Run.{Run}
use Rattle.cu_arrival.specs.Runs.{arrival_value}
use Rattle.cu_chordal.specs.declared.graph.Ends.{Ends}
use Rattle.cu_chordal.specs.Edges.{IsClosureOf}
use Rattle.cu_chordal.specs.Graphs.{IsChordal}
use Rattle.cu_interval.specs.declared.ways.Dir.{Dir}
use Rattle.cu_interval.specs.EdgeArcs.{AreEdgeArcs}
use Rattle.cu_interval.specs.Hierarchies.{end_of, list_number, start_of}
use Rattle.cu_model.proofs.RoadLaws.{all_at}
use Rattle.cu_interval.specs.declared.ways.Entry.{Entry}
use Rattle.cu_interval.specs.declared.ways.Way.{Way}
use Rattle.cu_interval.specs.declared.ways.Way.TheVariants.{Road, Via}
use Rattle.cu_interval.specs.WayLists.{IsRunsOf, way_in}
use Rattle.cu_runs.specs.declared.merging.TheConstants.{NOBODY}
use Rattle.cu_customize.specs.declared.task.Task.{Task}
use Rattle.cu_customize.specs.declared.triangles.Triangle.{Triangle}
use Rattle.cu_customize.specs.Functions.{FunctionsState, IsLowFunction, kept_state}
use Rattle.cu_runs.specs.Least.{Held, least_arrival, least_way}
use Rattle.cu_customize.specs.Settling.{ArrivesBy, IsDayValueOf, IsSettledList, KnowsHalves, function_from, through}
use Rattle.cu_customize.specs.Steps.Gathering.{ArrivesIn, IsGathered, IsInTime, IsLeastWay, IsOpenIn, IsPulled, IsTask, state_of, ways_of}
use Rattle.cu_customize.specs.Steps.Kept.{IsBuiltTo, Keeps}
use Rattle.cu_customize.specs.Triangles.{AreTriangles, middles_in}
use Rattle.cu_runs.specs.PackedRuns.{IsPackedFunction}
use Rattle.cu_customize.proofs.Keeping.{arcs_in, kept_are, kept_halves, next_built}
use Rattle.cu_customize.proofs.Dropped.{AreAlike, arrives_alike, daily_alike, kept_alike, settled_alike}
use Rattle.cu_customize.proofs.Loops.{few_rising}
use Rattle.cu_customize.proofs.EdgeTasks.{all_below, leads, task_settled, triangles_between}
use Rattle.cu_customize.proofs.Halves.{both_some}
use Rattle.cu_customize.proofs.Settles.{setting_at}
use Rattle.cu_interval.proofs.Bounds.{least-near, least-onward}
use Rattle.cu_runs.proofs.DayLists.{repeats}
use Rattle.cu_customize.proofs.LowFunctions.{IsSetting, down_edge, halves_at, up_edge}
use Rattle.cu_customize.proofs.Lows.{IsDailyValueOf}

-- there are fewer candidates than numbers
pub few_ways : (g : NetworkValue) (task : Task) → IsTask g task
    → (length task.arcs.now + length task.triangles.now < NOBODY) × (length (ways_of task) ≡ length task.arcs.now + length task.triangles.now)
few_ways g task is =
    let few = is.arcs_few in
    let middles = few_rising (middles_in task.triangles.now) task.leg.from is.middles_rise (λ k d h. (is.below k d h).0) in
    let size = length-map task.triangles.now (λ (t : Triangle). t.middle) in
    let ranks = is.chordal.few_ranks in
    let from = is.ranks.0 in
    let one = length-map task.arcs.now Road in
    let two = length-map (middles_in task.triangles.now) Via in
    let both = length-append (map Road task.arcs.now) (map Via (middles_in task.triangles.now)) in
    (omega (arith, few, middles, size, ranks, from), omega (arith, one, two, size, both))

through_near : (g : NetworkValue) (o : OrderValue) → IsNetwork g → IsOrder o → (u m v t a : ℕ) (first second : Option (ℕ → ℕ)) → IsLowFunction g o u m first → IsLowFunction g o m v second → t < day
    → through first second t ≡ Some a → IsInTime t a
through_near g o n k u m v t a None second h i lt e = absurd (cc e)
through_near g o n k u m v t a (Some f) None h i lt e = absurd (cc e)
through_near g o n k u m v t a (Some f) (Some b) h i lt e =
    let near = least-near g o n k u m t (f t) (h t) in
    let far = least-near g o n k m v (f t) (b (f t)) (i (f t)) in
    let to = least-onward g o n u m t (f t) (h t) in
    let on = least-onward g o n m v (f t) (b (f t)) (i (f t)) in
    let is : min (b (f t)) (2 ^ 62) ≡ a = cc e in
    (omega (arith, near, far, to, on, is, lt), omega (arith, near, far, is, lt))

-- no way by a middle arrives before it leaves, or later than numbers go
pub middle_near : (g : NetworkValue) (o : OrderValue) (edges : List Ends) (arcs : List ℕ) (f : FunctionsState) (u v : ℕ) → IsSetting g o edges arcs f u v → (m t a : ℕ) → m < u → m < v → t < day
    → ArrivesBy edges f u v t (Via m) a → IsInTime t a
middle_near g o edges arcs f u v s m t a mu mv lt e =
    let some = both_some (function_from edges f u m) (function_from edges f m v) t a e in
    let halves = halves_at g o edges arcs f u v s m mu mv (down_edge edges f u m mu some.0) (up_edge edges f m v mv some.1) in
    through_near g o s.network s.order u m v t a (function_from edges f u m) (function_from edges f m v) halves.first halves.second lt e

module _ (g : NetworkValue) (task : Task) (held : List Held) (is : IsTask g task) (gathered : IsGathered g task (ways_of task) held) where
  abbrev Runs : List Entry → Type 0
  Runs entries = IsRunsOf (IsOpenIn g task (ways_of task)) (ArrivesIn g task) entries

  abbrev Values : List Entry → Option (List Run) → Type 0
  Values entries function = IsDayValueOf task.graph.now.edges (state_of g task) task.leg.from task.leg.to entries function

  -- nobody's is the least of second 0 only where no way has a function
  none_open : least_way held 0 ≡ NOBODY → (way : Way) → IsOpenIn g task (ways_of task) way → ⊥
  none_open nobody = elim (gathered 0 (omega arith)) [
    | inl none ↦ none.closed
    | inr (w, least) ↦ absurd (let inside = slice_get_within (ways_of task) (least_way held 0) w least.there in let few = few_ways g task is in omega (arith, inside, few.0, few.1, nobody))
  ]

  some_open : least_way held 0 ≢ NOBODY → (t : ℕ) → t < day → (way : Way) × IsLeastWay g task (IsOpenIn g task (ways_of task)) (ways_of task) held t way
  some_open some t lt = elim (gathered t lt) [
    | inl nobody ↦ elim (gathered 0 (omega arith)) [
      | inl none ↦ absurd (some none.way)
      | inr (w, least) ↦ absurd (nobody.closed w least.among)
    ]
    | inr found ↦ found
  ]

  no_list : least_way held 0 ≡ NOBODY → Runs []
  no_list nobody = record {
    spelled = record { begins = tt; within = λ k d h. absurd (omega (arith, h)); turns = λ k d h. absurd (omega (arith, h)) };
    first = λ s way lt e. absurd (cc e);
    none = λ empty. none_open nobody;
  }

  -- what is pulled are the runs of the first least ways, and their value
  pub pulled_runs : (entries : List Entry) (function : Option (List Run)) → IsPulled (ways_of task) held entries function → Runs entries × Values entries function
  pulled_runs entries None (nobody, empty) = (subst (λ (es : List Entry). Runs es) (sym empty) (no_list nobody), empty)
  pulled_runs entries (Some packed) (some, list, more, good, read) =
      let least_in : (t : ℕ) (way : Way) → t < day → way_in entries t ≡ Some way → IsLeastWay g task (IsOpenIn g task (ways_of task)) (ways_of task) held t way = λ t way lt e.
      let (w, least) = some_open some t lt in
      let (is_way, is_value) = read t lt in
      let same : w ≡ way = cc (least.there, is_way, e) in
      subst (λ (x : Way). IsLeastWay g task (IsOpenIn g task (ways_of task)) (ways_of task) held t x) same least in (
        record {
          spelled = list;
          first = λ t way lt e.
              let least = least_in t way lt e in
              record { candidate = least.among; arrival = least_arrival held t; arrives = least.arrives; first = least.first };
          none = λ empty. absurd (more empty);
        },
        (
          more,
          good,
          λ t lt. let (w, least) = some_open some t lt in let read_value = (read t lt).1 in let late = least.near.0 in omega (arith, read_value, late),
          λ t way lt e.
              let least = least_in t way lt e in
              let (is_way, is_value) = read t lt in
              subst (λ (a : ℕ). ArrivesIn g task t way a) (sym is_value) least.arrives,
        ),
      )

-- what is said of each second of a day is said of a function that repeats by whole days
daily_value : (edges : List Ends) (f : FunctionsState) (u v : ℕ) (entries : List Entry) (function : Option (List Run)) → IsDayValueOf edges f u v entries function
    → IsDailyValueOf edges f u v entries function
daily_value edges f u v entries None empty = empty
daily_value edges f u v entries (Some packed) (more, good, onward, value) = (more, repeats packed good.over_day, value)

-- the next list, of which the task is to be settled
module _ (g : NetworkValue) (task : Task) (o : OrderValue) (lists : List (List ℕ)) (edge : ℕ) (dir : Dir) (ends : Ends) (n : IsNetwork g) (k : IsOrder o) (chordal : IsChordal task.graph.now)
    (closed : IsClosureOf g o task.graph.now) (are : AreEdgeArcs g o task.graph.now.edges lists) (at : slice_get task.graph.now.edges edge ≡ Some ends)
    (listed : slice_get lists (list_number edge dir) ≡ Some task.arcs.now) (found : AreTriangles task.graph.now.edges ends.low ends.high task.triangles.now)
    (whole functions : List (Option (List Run))) (ways : List (List Entry)) (built : IsBuiltTo g o task.graph.now.edges (list_number edge dir) whole ways)
    (keeps : Keeps task.graph.now.edges edge whole functions) (same : task.functions.now ≡ functions) (from : task.leg.from ≡ start_of ends dir) (to : task.leg.to ≡ end_of ends dir) where
  next_setting : IsSetting g o task.graph.now.edges task.arcs.now (kept_state g whole) (start_of ends dir) (end_of ends dir)
  next_setting =
      setting_at g o task.graph.now edge ends dir lists task.arcs.now (kept_state g whole) n k closed are
      (kept_are g o task.graph.now.edges (list_number edge dir) whole ways built) at listed (kept_halves g task.graph.now chordal whole edge dir ends at
      built.functions_long)

  -- the functions that are kept settle what all of them do
  next_alike : AreAlike task.graph.now.edges (kept_state g functions) (kept_state g whole) (start_of ends dir) (end_of ends dir)
  next_alike = kept_alike g task.graph.now chordal edge dir ends whole functions at keeps

  -- the functions and the ends by other names
  abbrev Ready : List (Option (List Run)) → ℕ → ℕ → Type 0
  Ready fs u v = KnowsHalves task.graph.now.edges (kept_state g fs) u v
      × ((middle t arrival : ℕ) → middle < u → middle < v → t < day → ArrivesBy task.graph.now.edges (kept_state g fs) u v t (Via middle) arrival → IsInTime t arrival)

  next_ready : Ready task.functions.now task.leg.from task.leg.to
  next_ready =
      let here : Ready functions (start_of ends dir) (end_of ends dir) = (
        kept_halves g task.graph.now chordal functions edge dir ends at (keeps.long ∙ built.functions_long),
        λ m t a mu mv lt e.
            middle_near g o task.graph.now.edges task.arcs.now (kept_state g whole) (start_of ends dir) (end_of ends dir) next_setting m t a mu mv lt
            (arrives_alike task.graph.now.edges (kept_state g functions) (kept_state g whole) (start_of ends dir) (end_of ends dir) next_alike t a (Via m) (mu, mv) e),
      ) in
      rw (same, from, to) here

  next_arcs : All (λ (a : ℕ). a < length g.arcs) task.arcs.now
  next_arcs = all_at (λ (xs : List ℕ). All (λ (a : ℕ). a < length g.arcs) xs) lists (list_number edge dir) task.arcs.now (arcs_in g o task.graph.now.edges lists are) listed

  -- it may be settled
  pub next_task : IsStrictlyIncreasing task.arcs.now → IsPackedFunction task.stay.now → ((t : ℕ) → t < day → arrival_value task.stay.now t ≡ t) → IsTask g task
  next_task arcs_rise stays stay = record {
    chordal = chordal;
    ranks = ((leads task edge dir ends chordal at found from to).start_in, (leads task edge dir ends chordal at found from to).end_in);
    stays = stays;
    stay = stay;
    arcs_rise = arcs_rise;
    arcs_few = let few = few_rising task.arcs.now (length g.arcs) arcs_rise next_arcs in let arcs = n.few_arcs in omega (arith, few, arcs);
    arcs = next_arcs;
    triangles = triangles_between task edge dir ends chordal at found from to;
    middles_rise = found.rising;
    below = all_below task edge dir ends chordal at found from to;
    halves = next_ready.0;
    near = λ middle mu mv t arrival lt e. next_ready.1 middle t arrival mu mv lt e;
  }

  -- and with what is pulled of it all lists up to it are built
  pub next_step : (held : List Held) (entries : List Entry) (function : Option (List Run)) → IsTask g task → IsGathered g task (ways_of task) held → IsPulled (ways_of task) held entries function
      → IsBuiltTo g o task.graph.now.edges (list_number edge dir + 1) (whole ++ function ∷ []) (ways ++ entries ∷ [])
  next_step held entries function is gathered pulled =
      let edges = task.graph.now.edges in
      let kept = kept_state g functions in
      let all = kept_state g whole in
      let u = start_of ends dir in
      let v = end_of ends dir in
      let (runs, value) = pulled_runs g task held is gathered entries function pulled in
      let settled = task_settled task edge dir ends chordal at found from to (state_of g task) entries runs in
      let here : IsSettledList edges task.arcs.now kept u v entries = rw (← same, ← from, ← to) settled in
      let value_here : IsDayValueOf edges kept u v entries function = rw (← same, ← from, ← to) value in
      next_built g o task.graph.now lists task.arcs.now whole ways edge dir ends function entries chordal n k closed are at listed built
      (settled_alike edges task.arcs.now kept all u v next_alike entries here)
      (daily_alike edges task.arcs.now kept all u v next_alike entries function here (daily_value edges kept u v entries function value_here))
