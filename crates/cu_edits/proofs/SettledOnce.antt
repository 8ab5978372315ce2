-- An edge settled by functions that know both halves of each of its middles, whatever these functions are.
use Rattle.std.proofs.Common.{◌≡◌, ◌≢◌, ◌<◌, ◌∙◌, ℕ, List, [], Some, refl, subst, arith, length, get_or}
use Rattle.std.specs.Prelude.{option_map, slice_get}
use Rattle.std.proofs.lemmas.List.Elements.{Contains-push}
use Rattle.std.proofs.lemmas.Option.{slice_get-get_or, slice_get_within}
use Rattle.cu_model.specs.Days.{day}
use Rattle.cu_arrival.specs.declared.runs.Run.{Run}
use Rattle.cu_arrival.specs.Runs.{arrival_value}
use Rattle.cu_chordal.specs.declared.graph.Ends.{Ends}
use Rattle.cu_interval.specs.declared.ways.Dir.{Dir}
use Rattle.cu_interval.specs.declared.ways.Way.{Way}
use Rattle.cu_interval.specs.declared.ways.TouchedEdge.{TouchedEdge}
use Rattle.cu_interval.specs.EdgeArcs.{AreEdgeArcs}
use Rattle.cu_interval.specs.Hierarchies.{HierarchyValue, end_of, list_from, list_number, list_of, start_of}
use Rattle.cu_interval.specs.Resettling.{ArrivesIn, IsCandidateIn, IsResettledList, least_in, rebuilt, value_by}
use Rattle.cu_interval.specs.WayLists.{way_in}
use Rattle.cu_interval.proofs.EndsLaws.{number_within}
use Rattle.cu_customize.specs.Functions.{FunctionsState}
use Rattle.cu_customize.specs.Settling.{ArrivesBy, IsCandidateBy, IsSettledList}
use Rattle.cu_edits.specs.Settling.{HasFinalSides, IsFinal, IsResettledEdge, IsSettled, SettlingValue, list_in, settled_so_far}
use Rattle.cu_edits.specs.Steps.Settled.{AreSettled}
use Rattle.cu_edits.specs.Steps.Frames.{LeadsOver}
use Rattle.cu_edits.proofs.Frames.{ChoosesAlike, candidates_alone, runs_alike}
use Rattle.cu_edits.proofs.Halves.{KnowsAll, knows_way, settled_alike}
use Rattle.cu_edits.proofs.SettledFrames.{FinalPair, resettled_stays, settled_list, settled_more, settled_with, stays_frame}
use Rattle.cu_edits.proofs.SettledValues.{least_stays, values_least, way_arrives}
use Rattle.cu_edits.proofs.Sides.{halves_good, list_at, over}
use Rattle.cu_resettled.specs.ResettlingAll.{IsTouchedEdgeBySome}

-- both lists of an edge are settled by these functions
abbrev pub HasSettledLists : List Ends → List (List ℕ) → FunctionsState → TouchedEdge → Type 0
HasSettledLists edges arcs f lists = (dir : Dir) (ends : Ends) (roads : List ℕ) → slice_get edges lists.edge ≡ Some ends → slice_get arcs (list_number lists.edge dir) ≡ Some roads
    → IsSettledList edges roads f (start_of ends dir) (end_of ends dir) (list_in lists dir)

-- the roads of an edge in a direction
pub listed : (h : HierarchyValue) (arcs : List (List ℕ)) → AreEdgeArcs h.network h.order h.edges arcs → (edge : ℕ) (dir : Dir) (ends : Ends) → slice_get h.edges edge ≡ Some ends
    → (list : List ℕ) × (slice_get arcs (list_number edge dir) ≡ Some list)
listed h arcs roads edge dir ends at =
    let inside = number_within edge (length h.edges) dir (slice_get_within h.edges edge ends at) in
    let long = roads.long in
    (get_or arcs (list_number edge dir) [], slice_get-get_or arcs (list_number edge dir) [] (omega (arith, inside, long)))

-- an edge whose new lists are the resettled ones of the hierarchy so far
module _ (s : SettlingValue) (are : AreSettled s) (t : TouchedEdge) (touched : IsTouchedEdgeBySome s.before s.edit t.edge) (fresh : IsSettled s t.edge → ⊥) (sides : HasFinalSides s t.edge)
    (resettled_now : (dir : Dir) (ends : Ends) → slice_get s.before.edges t.edge ≡ Some ends → IsResettledList (settled_so_far s) (start_of ends dir) (end_of ends dir) (list_in t dir)) where
  abbrev pub now : HierarchyValue
  now = settled_so_far s

  abbrev pub next : HierarchyValue
  next = settled_so_far (settled_with s t)

  -- they are those of the hierarchy with it
  pub edge_resettled : IsResettledEdge next t
  edge_resettled dir ends at =
      resettled_stays s are t touched fresh t.edge dir (start_of ends dir) (end_of ends dir) (list_in t dir) (over s.before.edges t.edge dir ends at) sides (resettled_now dir ends at)

  pub more : AreSettled (settled_with s t)
  more = settled_more s are t touched fresh sides edge_resettled

  pub new_list : (dir : Dir) → list_of next t.edge dir ≡ list_in t dir
  new_list dir = settled_list (settled_with s t) more t dir (Contains-push s.settled t)

  -- runs with the least values of its ways have the rebuilt ones of its new list
  pub new_values : (dir : Dir) (runs : List Run) (ends : Ends) → slice_get s.before.edges t.edge ≡ Some ends → option_map (λ (run : Run). run.from) (slice_get runs 0) ≡ Some 0
      → ((x : ℕ) → x < day → least_in (value_by now.network (rebuilt now) (start_of ends dir) (end_of ends dir) x) (list_in t dir) ≡ Some (arrival_value runs x))
      → (given : Ends) → slice_get s.before.edges t.edge ≡ Some given → (x : ℕ) → rebuilt next (start_of given dir) (end_of given dir) x ≡ Some (arrival_value runs x)
  new_values dir runs ends at starts least given there x =
      let same : ends ≡ given = cc (at, there) in
      let u = start_of ends dir in
      let v = end_of ends dir in
      let leads = over s.before.edges t.edge dir ends at in
      let list : list_from next u v ≡ list_in t dir = list_at s.before next are.sound refl t.edge dir u v leads ∙ new_list dir in
      subst (λ (e : Ends). rebuilt next (start_of e dir) (end_of e dir) x ≡ Some (arrival_value runs x)) same
      (least_stays now next (FinalPair s) (stays_frame s are t touched fresh) refl u v (list_in t dir) runs
      (λ m to on. halves_good s.before.edges (IsFinal s) t.edge dir u v m leads sides to on) (resettled_now dir ends at) list starts least x)

-- an edge that is settled by functions which know both halves of each of its middles
module _ (s : SettlingValue) (arcs : List (List ℕ)) (roads : AreEdgeArcs s.before.network s.before.order s.before.edges arcs) (t : TouchedEdge) (asked : FunctionsState)
    (knows : (dir : Dir) (u v : ℕ) → LeadsOver s.before.edges t.edge dir u v → KnowsAll (settled_so_far s) asked u v)
    (settled : HasSettledLists s.before.edges arcs asked t) where
  abbrev pub so_far : HierarchyValue
  so_far = settled_so_far s

  alike : (dir : Dir) (ends : Ends) → slice_get s.before.edges t.edge ≡ Some ends → (list : List ℕ) × IsSettledList s.before.edges list asked (start_of ends dir) (end_of ends dir) (list_in t dir)
      × ChoosesAlike (IsCandidateBy s.before.edges list asked (start_of ends dir) (end_of ends dir)) (IsCandidateIn so_far (start_of ends dir) (end_of ends dir))
      (ArrivesBy s.before.edges asked (start_of ends dir) (end_of ends dir)) (ArrivesIn so_far (start_of ends dir) (end_of ends dir))
  alike dir ends at =
      let (list, there) = listed s.before arcs roads t.edge dir ends at in (
        list,
        settled dir ends list at there,
        settled_alike s.before s.edit so_far refl refl list asked (start_of ends dir) (end_of ends dir) (roads.each t.edge dir ends list at there)
            (knows dir (start_of ends dir) (end_of ends dir) (over s.before.edges t.edge dir ends at)),
      )

  -- its lists are the resettled ones of the hierarchy so far
  pub resettled_by : (dir : Dir) (ends : Ends) → slice_get s.before.edges t.edge ≡ Some ends → IsResettledList so_far (start_of ends dir) (end_of ends dir) (list_in t dir)
  resettled_by dir ends at =
      let (list, runs, same) = alike dir ends at in
      let u = start_of ends dir in
      let v = end_of ends dir in
      runs_alike (IsCandidateBy s.before.edges list asked u v) (IsCandidateIn so_far u v) (ArrivesBy s.before.edges asked u v) (ArrivesIn so_far u v) (list_in t dir) same runs

  -- and runs with the values of its ways in force have the least ones
  pub least_by : (dir : Dir) (runs : List Run) (ends : Ends) → slice_get s.before.edges t.edge ≡ Some ends → list_in t dir ≢ []
      → ((x : ℕ) (way : Way) → x < day → way_in (list_in t dir) x ≡ Some way → ArrivesBy s.before.edges asked (start_of ends dir) (end_of ends dir) x way (arrival_value runs x))
      → (x : ℕ) → x < day → least_in (value_by so_far.network (rebuilt so_far) (start_of ends dir) (end_of ends dir) x) (list_in t dir) ≡ Some (arrival_value runs x)
  least_by dir runs ends at some values =
      let (list, settled_list, same) = alike dir ends at in
      let u = start_of ends dir in
      let v = end_of ends dir in
      let resettled = resettled_by dir ends at in
      let candidates = candidates_alone (IsCandidateIn so_far u v) (ArrivesIn so_far u v) (list_in t dir) resettled in
      let known = knows dir u v (over s.before.edges t.edge dir ends at) in
      values_least so_far u v (list_in t dir) runs (λ x k d inside. way_arrives so_far asked u v x _ (knows_way so_far asked u v known _) (candidates k d inside)) resettled some
      (λ x way lt in_force. same.arrives x way (arrival_value runs x) (settled_list.first x way lt in_force).candidate (values x way lt in_force))
