-- What is pulled from a merger: entries by the runs of the numbers of ways.
use Rattle.std.proofs.Common.{◌≡◌, ◌≢◌, ◌<◌, ◌+◌, ◌∙◌, ◌++◌, ℕ, suc, List, [], ◌∷◌, Option, Some, None, sym, ap, subst, arith, length, get_or, map}
use Rattle.std.specs.Prelude.{All, slice_get}
use Rattle.std.specs.List.Sorted.{IsStrictlyIncreasing}
use Rattle.std.specs.Option.{option_map}
use Rattle.std.proofs.lemmas.List.{get_or-map, length-map}
use Rattle.cu_model.specs.Begun.{last_begun}
use Rattle.cu_model.specs.Days.{day}
use Rattle.cu_model.specs.Networks.{NetworkValue}
use Rattle.cu_model.proofs.Begun.{begun_until}
use Rattle.cu_arrival.specs.declared.runs.Run.{Run}
use Rattle.cu_arrival.specs.Runs.{arrival_value}
use Rattle.cu_arrival.proofs.Mapped.{last_begun-map, starts-map}
use Rattle.cu_interval.specs.declared.ways.Entry.{Entry}
use Rattle.cu_interval.specs.declared.ways.Way.{Way}
use Rattle.cu_interval.specs.declared.ways.Way.TheVariants.{Road, Via}
use Rattle.cu_interval.specs.WayLists.{BeginsAtZero, IsWayList, way_in}
use Rattle.cu_runs.specs.declared.merging.TheConstants.{NOBODY}
use Rattle.cu_runs.specs.declared.merging.WayRun.{WayRun}
use Rattle.cu_customize.specs.declared.task.Task.{Task}
use Rattle.cu_runs.specs.Least.{Held, IsWayRuns, least_arrival, least_way}
use Rattle.cu_customize.specs.Steps.Gathering.{IsPulled, IsTask, IsWithin, read_of, said_by, ways_of}
use Rattle.cu_customize.specs.Triangles.{middles_in}
use Rattle.cu_runs.specs.PackedRuns.{IsPackedFunction}
use Rattle.cu_customize.proofs.Places.{way_place}

module _ (held : List Held) (runs : List WayRun) (is : IsWayRuns held runs) where
  -- each run is in force at its own second
  own_way : (k : ℕ) (d : WayRun) → k < length runs → (get_or runs k d).way ≡ least_way held (get_or runs k d).from
  own_way k d inside =
      let from = (get_or runs k d).from in
      let found : last_begun (λ (r : WayRun). r.from) runs from ≡ Some (get_or runs k d) = begun_until (λ (r : WayRun). r.from) runs is.rises d k from inside (omega arith)
      (λ more.
      let sum : k + 1 ≡ suc k = omega arith in
      let step = is.rises k d (omega (arith, more)) in
      subst (λ (n : ℕ). (get_or runs k d).from < (get_or runs n d).from) sum step) in
      let said : option_map (λ (r : WayRun). r.way) (Some (get_or runs k d)) ≡ Some (least_way held from) =
      subst (λ (o : Option WayRun). option_map (λ (r : WayRun). r.way) o ≡ Some (least_way held from)) found (is.ways from (is.limits k d inside)) in
      cc said

  pub runs_within : (ways : List Way) → IsWithin ways held → All (λ (run : WayRun). run.way < length ways) runs
  runs_within ways within k d inside =
      let own = own_way k d inside in
      let few = within.numbers (get_or runs k d).from (is.limits k d inside) in
      omega (arith, own, few)

begins_at : (entries : List Entry) → option_map (λ (e : Entry). e.from) (slice_get entries 0) ≡ Some 0 → BeginsAtZero entries × (entries ≢ [])
begins_at [] e = absurd (cc e)
begins_at (x ∷ xs) e = (cc e, λ none. absurd (cc none))

said_way : (ways : List Way) (o : Option Entry) (p : Option WayRun) (n : ℕ) → option_map said_by o ≡ option_map (read_of ways) p → option_map (λ (run : WayRun). run.way) p ≡ Some n
    → option_map (λ (e : Entry). e.way) o ≡ slice_get ways n
said_way ways o None n e f = absurd (cc f)
said_way ways None (Some run) n e f = absurd (cc e)
said_way ways (Some entry) (Some run) n e f =
    let number : run.way ≡ n = cc f in
    let pair : said_by entry ≡ read_of ways run = cc e in
    let way : Some entry.way ≡ slice_get ways run.way = ap (λ (p : ℕ × Option Way). p.1) pair in
    subst (λ (k : ℕ). Some entry.way ≡ slice_get ways k) number way

module _ (xs ys : List ℕ) (roads : IsStrictlyIncreasing xs) (middles : IsStrictlyIncreasing ys) (held : List Held) (runs : List WayRun) (entries : List Entry) (is : IsWayRuns held runs)
    (same : map said_by entries ≡ map (read_of (map Road xs ++ map Via ys)) runs) where
  abbrev ways : List Way
  ways = map Road xs ++ map Via ys

  entries_long : length entries ≡ length runs
  entries_long = let one = length-map entries said_by in let two = length-map runs (read_of ways) in let e = ap length same in omega (arith, one, two, e)

  abbrev no_run : WayRun
  no_run = record { from = 0; way = 0 }

  entry_said : (k : ℕ) (d : Entry) → k < length entries → said_by (get_or entries k d) ≡ read_of ways (get_or runs k no_run)
  entry_said k d inside =
      let long = entries_long in
      sym (get_or-map said_by entries k d (said_by d) inside) ∙ ap (λ (ps : List (ℕ × Option Way)). get_or ps k (said_by d)) same
      ∙ get_or-map (read_of ways) runs k no_run (said_by d) (omega (arith, inside, long))

  entry_from : (k : ℕ) (d : Entry) → k < length entries → (get_or entries k d).from ≡ (get_or runs k no_run).from
  entry_from k d inside = ap (λ (p : ℕ × Option Way). p.0) (entry_said k d inside)

  entry_way : (k : ℕ) (d : Entry) → k < length entries → slice_get ways (get_or runs k no_run).way ≡ Some (get_or entries k d).way
  entry_way k d inside = sym (ap (λ (p : ℕ × Option Way). p.1) (entry_said k d inside))

  entries_start : option_map (λ (e : Entry). e.from) (slice_get entries 0) ≡ Some 0
  entries_start =
      sym (starts-map said_by (λ (p : ℕ × Option Way). p.0) entries)
      ∙ ap (λ (ps : List (ℕ × Option Way)). option_map (λ (p : ℕ × Option Way). p.0) (slice_get ps 0)) same
      ∙ starts-map (read_of ways) (λ (p : ℕ × Option Way). p.0) runs ∙ is.starts

  pub entries_list : IsWayList entries × (entries ≢ [])
  entries_list =
      let long = entries_long in
      let (begins, some) = begins_at entries entries_start in (
        record {
          begins = begins;
          within = λ k d h. let from = entry_from k d h in let limit = is.limits k no_run (omega (arith, h, long)) in omega (arith, from, limit);
          turns = λ k d h.
              let here = entry_from k d (omega (arith, h)) in
              let next = entry_from (k + 1) d h in
              let order = is.rises k no_run (omega (arith, h, long)) in (
                omega (arith, here, next, order),
                λ equal.
                    let one = entry_way k d (omega (arith, h)) in
                    let two = entry_way (k + 1) d h ∙ ap Some (sym equal) in
                    is.differs k no_run (omega (arith, h, long)) (way_place xs ys (get_or runs k no_run).way (get_or runs (k + 1) no_run).way (get_or entries k d).way roads middles one two),
              );
        },
        some,
      )

  pub entries_way : (t : ℕ) → t < day → way_in entries t ≡ slice_get ways (least_way held t)
  entries_way t lt =
      let begun : option_map said_by (last_begun (λ (e : Entry). e.from) entries t) ≡ option_map (read_of ways) (last_begun (λ (r : WayRun). r.from) runs t) =
      sym (last_begun-map said_by (λ (p : ℕ × Option Way). p.0) entries t)
      ∙ ap (λ (ps : List (ℕ × Option Way)). last_begun (λ (p : ℕ × Option Way). p.0) ps t) same
      ∙ last_begun-map (read_of ways) (λ (p : ℕ × Option Way). p.0) runs t in
      said_way ways (last_begun (λ (e : Entry). e.from) entries t) (last_begun (λ (r : WayRun). r.from) runs t) (least_way held t) begun (is.ways t lt)

-- what is pulled of a merger whose least is somebody's
pub pulled : (g : NetworkValue) (task : Task) (held : List Held) (read runs : List WayRun) (entries list : List Entry) (packed function : List Run) → IsTask g task → least_way held 0 ≢ NOBODY
    → IsWayRuns held runs → read ≡ runs
    → map said_by entries ≡ map (read_of (ways_of task)) read → list ≡ entries → function ≡ packed → IsPackedFunction packed → ((t : ℕ) → t < day → arrival_value packed t ≡ least_arrival held t)
    → IsPulled (ways_of task) held list (Some function)
pulled g task held read runs entries list packed function is some ways same said is_list is_function good value =
    let here = subst (λ (rs : List WayRun). map said_by entries ≡ map (read_of (ways_of task)) rs) same said in
    let (spelled, more) = entries_list task.arcs.now (middles_in task.triangles.now) is.arcs_rise is.middles_rise held runs entries ways here in
    let at = entries_way task.arcs.now (middles_in task.triangles.now) is.arcs_rise is.middles_rise held runs entries ways here in
    subst (λ (es : List Entry). IsPulled (ways_of task) held es (Some function)) (sym is_list)
    (subst (λ (ws : List Run). IsPulled (ways_of task) held entries (Some ws)) (sym is_function) (some, spelled, more, good, λ t lt. (at t lt, value t lt)))
