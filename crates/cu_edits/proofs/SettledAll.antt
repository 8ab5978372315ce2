-- Where all touched edges are settled the hierarchy is the resettled one.
use Rattle.std.proofs.Common.{◌≡◌, ◌≢◌, ◌∙◌, ℕ, List, [], Some, refl, ap, sym, subst, arith, inl, inr, get_or}
use Rattle.std.specs.Prelude.{All, slice_get}
use Rattle.std.specs.List.Sorted.{IsStrictlyIncreasing}
use Rattle.std.proofs.lemmas.List.{get_or-map, length-map}
use Rattle.std.proofs.lemmas.List.Kept.{AllPairs-from_increasing}
use Rattle.std.proofs.lemmas.Option.{slice_get-get_or}
use Rattle.cu_model.specs.Networks.{IsNetwork}
use Rattle.cu_model.proofs.RoadLaws.{all_at}
use Rattle.cu_chordal.specs.declared.graph.Ends.{Ends}
use Rattle.cu_chordal.specs.Graphs.{IsChordal}
use Rattle.cu_chordal.proofs.Decided.{member_decided}
use Rattle.cu_interval.specs.declared.ways.Dir.{Dir}
use Rattle.cu_interval.specs.declared.ways.Way.{Way}
use Rattle.cu_interval.specs.declared.ways.Way.TheVariants.{Road, Via}
use Rattle.cu_interval.specs.declared.ways.Entry.{Entry}
use Rattle.cu_interval.specs.declared.ways.TouchedEdge.{TouchedEdge}
use Rattle.cu_interval.specs.Hierarchies.{IsHierarchy, IsWellFormed, end_of, entries_or_none, list_number, list_of, start_of}
use Rattle.cu_interval.specs.Resettling.{ArrivesIn, IsCandidateIn, IsResettledList}
use Rattle.cu_interval.specs.WayLists.{IsWayList}
use Rattle.cu_interval.proofs.EndsLaws.{each_number}
use Rattle.cu_interval.proofs.Replacing.{replaced_long}
use Rattle.cu_edits.specs.Settling.{IsSettled, SettlingValue, list_in, numbers_of, settled_so_far}
use Rattle.cu_edits.specs.Steps.Settled.{AreSettled}
use Rattle.cu_edits.specs.Steps.Frames.{LeadsOver}
use Rattle.cu_edits.proofs.Frames.{candidates_alone}
use Rattle.cu_edits.proofs.Replaced.{AreApart, number_of_one, replaced_other}
use Rattle.cu_edits.proofs.SettledFrames.{all_so, leads_touched, settled_list, untouched_frame, untouched_list, untouched_sides}
use Rattle.cu_edits.proofs.Sides.{edge_down, edge_up, halves_good, over}
use Rattle.cu_resettled.proofs.Unchanged.{leads_joins}
use Rattle.cu_resettled.specs.ResettlingAll.{IsResettledAll, IsTouchedEdgeBySome, edited_all}
use Rattle.cu_resettled.proofs.TouchedBySome.{all_leads_still}
use Rattle.cu_resettled.proofs.ResettledThere.{edges_all, nodes_all}

-- every touched edge was settled
abbrev pub AllSettled : SettlingValue → Type 0
AllSettled s = (e : ℕ) → IsTouchedEdgeBySome s.before s.edit e → IsSettled s e

pub all_resettled : (s : SettlingValue) → AreSettled s → AllSettled s → IsResettledAll s.before s.edit (settled_so_far s)
all_resettled s are all = record {
  network = refl;
  order = refl;
  edges = refl;
  lists = replaced_long s.before.lists s.settled;
  kept = λ e d untouched. untouched_list s are e d untouched;
  resettled = λ e d ends at touched.
      let now = settled_so_far s in
      let (t, among, same) = number_of_one s.settled e (all e touched) in
      subst (λ (k : ℕ). IsResettledList now (start_of ends d) (end_of ends d) (list_of now k d)) same
      (subst (IsResettledList now (start_of ends d) (end_of ends d)) (sym (settled_list s are t d among))
      (are.lists t among d ends (subst (λ (k : ℕ). slice_get s.before.edges k ≡ Some ends) (sym same) at)));
}

-- each list is a way list
spelled_at : (s : SettlingValue) → AreSettled s → (e : ℕ) (d : Dir) (entries : List Entry) → slice_get (settled_so_far s).lists (list_number e d) ≡ Some entries → IsWayList entries
spelled_at s are e d entries at = elim (member_decided (numbers_of s.settled) e) [
  | inl c ↦
      let (t, among, same) = number_of_one s.settled e c in
      let (ends, there, touched) = are.touched e c in
      let runs = are.lists t among d ends (subst (λ (k : ℕ). slice_get s.before.edges k ≡ Some ends) (sym same) there) in
      let list : list_in t d ≡ entries = sym (settled_list s are t d among) ∙ subst (λ (k : ℕ). list_of (settled_so_far s) k d ≡ entries) (sym same) (ap entries_or_none at) in
      subst IsWayList list runs.spelled
  | inr n ↦ all_at IsWayList s.before.lists (list_number e d) entries are.sound.spelled (sym (replaced_other s.settled s.before.lists e d n) ∙ at)
]

all_spelled : (s : SettlingValue) → AreSettled s → All IsWayList (settled_so_far s).lists
all_spelled s are = λ k d lt.
    let lists = (settled_so_far s).lists in
    let (e, dir, is) = each_number k in
    spelled_at s are e dir (get_or lists k d) (subst (λ (n : ℕ). slice_get lists n ≡ Some (get_or lists k d)) (sym is) (slice_get-get_or lists k d lt))

-- each way is well formed
candidate_formed : (s : SettlingValue) (u v : ℕ) (way : Way) → IsCandidateIn (settled_so_far s) u v way → IsWellFormed (settled_so_far s) u v way
candidate_formed s u v (Road road) c = c
candidate_formed s u v (Via m) (to, on, first, second) = (to, on, edge_down (settled_so_far s) u m to first, edge_up (settled_so_far s) m v on second, first, second)

untouched_formed : (s : SettlingValue) → AreSettled s → (edge : ℕ) (dir : Dir) (u v : ℕ) (way : Way) → LeadsOver s.before.edges edge dir u v
    → (IsTouchedEdgeBySome s.before s.edit edge → ⊥) → IsWellFormed s.before u v way → IsWellFormed (settled_so_far s) u v way
untouched_formed s are edge dir u v (Road road) leads untouched formed =
    all_leads_still s.before.network s.before.order s.edit road u v
    (λ changed. untouched (leads_touched s.before are.sound s.edit edge dir u v road leads (leads_joins s.before.network s.before.order road u v formed).0 changed)) formed
untouched_formed s are edge dir u v (Via m) leads untouched (to, on, first, second, some, more) =
    let halves = halves_good s.before.edges (λ e. IsTouchedEdgeBySome s.before s.edit e → ⊥) edge dir u v m leads (untouched_sides s are.sound edge untouched) first second in
    let frame = untouched_frame s are in (
      to,
      on,
      first,
      second,
      subst (λ (es : List Entry). es ≢ []) (frame.lists u m halves.0) some,
      subst (λ (es : List Entry). es ≢ []) (frame.lists m v halves.1) more,
    )

formed_at : (s : SettlingValue) → AreSettled s → AllSettled s → (edge : ℕ) (dir : Dir) (ends : Ends) → slice_get s.before.edges edge ≡ Some ends
    → All (λ (entry : Entry). IsWellFormed (settled_so_far s) (start_of ends dir) (end_of ends dir) entry.way) (list_of (settled_so_far s) edge dir)
formed_at s are all edge dir ends at =
    let now = settled_so_far s in
    let u = start_of ends dir in
    let v = end_of ends dir in
    elim (member_decided (numbers_of s.settled) edge) [
      | inl c ↦
          let (t, among, same) = number_of_one s.settled edge c in
          let runs = are.lists t among dir ends (subst (λ (k : ℕ). slice_get s.before.edges k ≡ Some ends) (sym same) at) in
          let list : list_of now edge dir ≡ list_in t dir = subst (λ (k : ℕ). list_of now k dir ≡ list_in t dir) same (settled_list s are t dir among) in
          subst (All (λ (entry : Entry). IsWellFormed now u v entry.way)) (sym list)
          (all_so (λ (entry : Entry). IsCandidateIn now u v entry.way) (λ (entry : Entry). IsWellFormed now u v entry.way) (list_in t dir) (λ entry. candidate_formed s u v entry.way)
          (candidates_alone (IsCandidateIn now u v) (ArrivesIn now u v) (list_in t dir) runs))
      | inr n ↦
          let untouched : IsTouchedEdgeBySome s.before s.edit edge → ⊥ = λ touched. n (all edge touched) in
          subst (All (λ (entry : Entry). IsWellFormed now u v entry.way)) (sym (untouched_list s are edge dir untouched))
          (all_so (λ (entry : Entry). IsWellFormed s.before u v entry.way) (λ (entry : Entry). IsWellFormed now u v entry.way) (list_of s.before edge dir)
          (λ entry. untouched_formed s are edge dir u v entry.way (over s.before.edges edge dir ends at) untouched) (are.sound.formed edge dir ends at))
    ]

pub all_sound : (s : SettlingValue) → AreSettled s → AllSettled s → IsNetwork (edited_all s.before.network s.edit) → IsHierarchy (settled_so_far s)
all_sound s are all network =
    let g = s.before.network in
    let nodes = nodes_all g s.edit in
    let sound = are.sound in
    record {
      network = network;
      order = sound.order;
      same = sound.same ∙ sym nodes;
      graph = subst (λ (n : ℕ). IsChordal (record { ranks = n; edges = s.before.edges })) (sym nodes) sound.graph;
      edges = edges_all g s.before.order s.edit s.before.edges sound.edges;
      lists = replaced_long s.before.lists s.settled ∙ sound.lists;
      spelled = all_spelled s are;
      formed = λ edge dir ends at. formed_at s are all edge dir ends at;
    }

-- edges by rising number differ
pub edges_differ : (edges : List TouchedEdge) → IsStrictlyIncreasing (numbers_of edges) → AreApart edges
edges_differ edges rising = λ i j d lt inside.
    let number : TouchedEdge → ℕ = λ (t : TouchedEdge). t.edge in
    let long = length-map edges number in
    let less = AllPairs-from_increasing (numbers_of edges) rising i j 0 lt (omega (arith, inside, long)) in
    let first = get_or-map number edges i d 0 (omega (arith, lt, inside)) in
    let second = get_or-map number edges j d 0 inside in
    λ same. omega (arith, less, first, second, same)
