-- Settling one list by packed runs.
use Rattle.std.proofs.Common.{◌≡◌, ◌≤◌, ◌<◌, ◌+◌, ◌*◌, ◌∙◌, ◌++◌, ◌∷◌, ℕ, List, [], Option, Some, ap, subst, arith, inl, inr, get_or, length, ltb, take, true}
use Rattle.std.specs.Prelude.{All, slice_get}
use Rattle.std.specs.List.{Contains}
use Rattle.std.specs.List.Sorted.{IsStrictlyIncreasing}
use Rattle.std.proofs.lemmas.List.{map-append, take_more}
use Rattle.std.proofs.lemmas.List.Elements.{Contains-append_cases}
use Rattle.std.proofs.lemmas.Option.{slice_get_within}
use Rattle.cu_model.specs.Days.{day}
use Rattle.cu_model.specs.declared.limits.TheConstants.{MAX_ARCS}
use Rattle.cu_model.specs.Networks.{NetworkValue}
use Rattle.cu_arrival.specs.declared.runs.Run.{Run}
use Rattle.cu_arrival.specs.Runs.{arrival_value}
use Rattle.cu_chordal.specs.declared.graph.Ends.{Ends}
use Rattle.cu_chordal.specs.Graphs.{HasEdge, IsChordal}
use Rattle.cu_chordal.proofs.Members.{member_cases, none_in_nil}
use Rattle.cu_interval.specs.declared.ways.Dir.{Dir}
use Rattle.cu_interval.specs.declared.ways.Dir.TheVariants.{Up, Down}
use Rattle.cu_interval.specs.declared.ways.Entry.{Entry}
use Rattle.cu_interval.specs.declared.ways.Way.TheVariants.{Via}
use Rattle.cu_interval.specs.Hierarchies.{end_of, list_number, number_from, start_of}
use Rattle.cu_interval.proofs.Lookups.{number_found}
use Rattle.cu_interval.proofs.EndsLaws.{number_within}
use Rattle.cu_customize.specs.declared.task.Task.{Task}
use Rattle.cu_customize.specs.declared.triangles.Triangle.{Triangle}
use Rattle.cu_customize.specs.Functions.{FunctionsState, kept_state}
use Rattle.cu_runs.specs.Least.{Held}
use Rattle.cu_customize.specs.Settling.{HasFarWay, IsDayValueOf, IsSettledList, KnowsHalves, function_from}
use Rattle.cu_customize.specs.Steps.Gathering.{AreNear, HasTriangles, IsGathered, IsNear, IsPulled, IsTask, state_of, ways_of}
use Rattle.cu_customize.specs.Steps.Triangles.{AreTrianglesBy}
use Rattle.cu_customize.specs.Triangles.{AreTriangles, middles_in}
use Rattle.cu_runs.specs.PackedRuns.{IsPackedFunction}
use Rattle.cu_customize.proofs.EdgeTasks.{all_below, common_found, leads, task_settled, triangles_between}
use Rattle.cu_customize.proofs.LowFunctions.{down_edge, up_edge}
use Rattle.cu_customize.proofs.Halves.{both_some}
use Rattle.cu_customize.proofs.Nexts.{pulled_runs}

-- with no middle there is no triangle
pub none_by : (edges : List Ends) (low high : ℕ) → AreTrianglesBy edges low high [] []
none_by edges low high = record {
  each = λ k d lt. absurd (omega (arith, lt));
  rising = λ k lt. absurd (omega (arith, lt));
  by = λ x held. absurd (none_in_nil x held);
  whole = λ x held edge. absurd (none_in_nil x held);
}

-- with the middles of all lower neighbours there are all triangles
pub all_by : (edges : List Ends) (low high : ℕ) (downs : List ℕ) (triangles : List Triangle) → ((middle : ℕ) → HasEdge edges middle low → Contains downs middle)
    → AreTrianglesBy edges low high downs triangles → AreTriangles edges low high triangles
all_by edges low high downs triangles members by = record { each = by.each; rising = by.rising; whole = λ middle one two. by.whole middle (members middle one) two }

-- so are those of one triangle more
pub near_more : (g : NetworkValue) (task : Task) (triangles : List Triangle) (i : ℕ) (d : Triangle) → i < length triangles → AreNear g task (take i triangles)
    → IsNear g task (Via (get_or triangles i d).middle) → AreNear g task (take (i + 1) triangles)
near_more g task triangles i d inside near here middle held =
    let more : middles_in (take (i + 1) triangles) ≡ middles_in (take i triangles) ++ (get_or triangles i d).middle ∷ [] =
    ap middles_in (take_more triangles i d inside) ∙ map-append (λ (t : Triangle). t.middle) (take i triangles) (get_or triangles i d ∷ []) in
    elim (Contains-append_cases (middles_in (take i triangles)) ((get_or triangles i d).middle ∷ []) middle (subst (λ (ms : List ℕ). Contains ms middle) more held)) [
      | inl before ↦ near middle before
      | inr last ↦ elim (member_cases (get_or triangles i d).middle [] middle last) [
        | inl same ↦ subst (λ (m : ℕ). IsNear g task (Via m)) same here
        | inr none ↦ absurd (none_in_nil middle none)
      ]
    ]

-- where all functions are there the halves are
all_known : (g : NetworkValue) (edges : List Ends) (functions : List (Option (List Run))) (u v : ℕ) → length functions ≡ 2 * length edges → KnowsHalves edges (kept_state g functions) u v
all_known g edges functions u v long m mu mv one two =
    let known : (d : Dir) (y e : ℕ) → number_from 0 edges m y ≡ Some e → ltb (list_number e d) (length functions) ≡ true = λ d y e found.
    let (j, same, there) = number_found 0 edges m y e found in
    let edge = slice_get_within edges j _ there in
    let inside = number_within e (length edges) d (omega (arith, edge, same)) in
    grind (arith, inside, long) in
    (known Down u, known Up v)

-- a far way by other names of the ends
pub far_between : (edges : List Ends) (f : FunctionsState) (u v x y : ℕ) → u ≡ x → v ≡ y → HasFarWay edges f u v → HasFarWay edges f x y
far_between edges f u v x y from to far = rw (← from, ← to) far

module _ (g : NetworkValue) (task : Task) (edge : ℕ) (dir : Dir) (ends : Ends) (chordal : IsChordal task.graph.now) (at : slice_get task.graph.now.edges edge ≡ Some ends)
    (found : AreTriangles task.graph.now.edges ends.low ends.high task.triangles.now) (from : task.leg.from ≡ start_of ends dir) (to : task.leg.to ≡ end_of ends dir)
    (long : length task.functions.now ≡ 2 * length task.graph.now.edges) where
  pub edge_triangles : HasTriangles g task
  edge_triangles = record {
    chordal = chordal;
    triangles = triangles_between task edge dir ends chordal at found from to;
    below = all_below task edge dir ends chordal at found from to;
    halves = all_known g task.graph.now.edges task.functions.now task.leg.from task.leg.to long;
  }

  -- a middle that is no triangle's has no way
  all_near : AreNear g task task.triangles.now → (middle : ℕ) → middle < task.leg.from → middle < task.leg.to → IsNear g task (Via middle)
  all_near near middle mu mv t arrival lt by =
      let edges = task.graph.now.edges in
      let f = state_of g task in
      let some = both_some (function_from edges f task.leg.from middle) (function_from edges f middle task.leg.to) t arrival by in
      near middle
      (common_found task edge dir ends chordal at found from to middle (down_edge edges f task.leg.from middle mu some.0) (up_edge edges f middle task.leg.to mv some.1)) t arrival lt by

  pub edge_task : IsStrictlyIncreasing task.arcs.now → length task.arcs.now ≤ MAX_ARCS → All (λ (a : ℕ). a < length g.arcs) task.arcs.now → IsPackedFunction task.stay.now
      → ((t : ℕ) → t < day → arrival_value task.stay.now t ≡ t) → AreNear g task task.triangles.now → IsTask g task
  edge_task arcs_rise arcs_few arcs stays stay near =
      let over = leads task edge dir ends chordal at found from to in
      record {
        chordal = chordal;
        ranks = (over.start_in, over.end_in);
        stays = stays;
        stay = stay;
        arcs_rise = arcs_rise;
        arcs_few = arcs_few;
        arcs = arcs;
        triangles = edge_triangles.triangles;
        middles_rise = found.rising;
        below = edge_triangles.below;
        halves = edge_triangles.halves;
        near = all_near near;
      }

  -- what is pulled is the settled list and its value
  pub edge_settled : (held : List Held) (entries : List Entry) (function : Option (List Run)) → IsTask g task → IsGathered g task (ways_of task) held → IsPulled (ways_of task) held entries function
      → IsSettledList task.graph.now.edges task.arcs.now (state_of g task) (start_of ends dir) (end_of ends dir) entries
      × IsDayValueOf task.graph.now.edges (state_of g task) (start_of ends dir) (end_of ends dir) entries function
  edge_settled held entries function is gathered pulled =
      let (runs, value) = pulled_runs g task held is gathered entries function pulled in
      let settled = task_settled task edge dir ends chordal at found from to (state_of g task) entries runs in
      rw (← from, ← to) (settled, value)
