-- What the settler of an edit holds, as it learns functions and settles an edge.
use Rattle.std.proofs.Common.{◌≡◌, ◌≢◌, ◌<◌, ◌∙◌, ℕ, List, [], Option, Some, None, refl, ap, sym, subst, arith, inl, inr, length}
use Rattle.std.specs.Prelude.{slice_get, slice_set}
use Rattle.std.proofs.lemmas.Bool.{cases_eq}
use Rattle.std.proofs.lemmas.Option.{slice_get_within}
use Rattle.std.proofs.lemmas.List.{length-set}
use Rattle.cu_model.proofs.ListLaws.{get_here, get_other}
use Rattle.cu_arrival.specs.declared.runs.Run.{Run}
use Rattle.cu_arrival.specs.Runs.{arrival_value}
use Rattle.cu_chordal.specs.declared.graph.Ends.{Ends}
use Rattle.cu_chordal.specs.Graphs.{ChordalValue}
use Rattle.cu_interval.specs.declared.ways.Dir.{Dir}
use Rattle.cu_interval.specs.declared.ways.Dir.TheVariants.{Up, Down}
use Rattle.cu_interval.specs.declared.ways.Entry.{Entry}
use Rattle.cu_interval.specs.declared.ways.TouchedEdge.{TouchedEdge}
use Rattle.cu_interval.specs.EdgeArcs.{AreEdgeArcs}
use Rattle.cu_interval.specs.Hierarchies.{HierarchyValue, end_of, list_of, start_of}
use Rattle.cu_interval.specs.Resettling.{IsResettledList, rebuilt}
use Rattle.cu_customize.specs.Functions.{FunctionsState}
use Rattle.cu_customize.specs.Settling.{IsValueOf}
use Rattle.cu_unpack.specs.Rebuilds.{IsRebuiltFunction, Keeps, RebuiltValue}
use Rattle.cu_edits.specs.declared.edge_functions.EdgeFunctions.{EdgeFunctions}
use Rattle.cu_edits.specs.Settling.{HasFinalSides, IsFinal, IsLowerSide, IsResettledEdge, IsSettled, SettlingValue, list_in, settled_so_far}
use Rattle.cu_edits.specs.Steps.Holding.{IsSettledEdge, IsSettling}
use Rattle.cu_edits.specs.Steps.Known.{AreRebuilt, HasFunctions, IsSide, Learns, function_in, functions_of}
use Rattle.cu_edits.specs.Steps.Settled.{AreSettled}
use Rattle.cu_edits.specs.Steps.Frames.{IsFrame, LeadsOver}
use Rattle.cu_edits.proofs.Frames.{rebuilt_stays}
use Rattle.cu_edits.proofs.Halves.{KnowsAll, half_known}
use Rattle.cu_edits.proofs.Replaced.{list_pushed}
use Rattle.cu_edits.proofs.SettledFrames.{FinalPair, UntouchedPair, final_still, other_edge, settled_cases, settled_itself, settled_with, stays_frame, untouched_frame, untouched_list}
use Rattle.cu_edits.proofs.SettledOnce as once
use Rattle.cu_edits.proofs.Sides.{halves_at, over}
use Rattle.cu_resettled.specs.ResettlingAll.{IsTouchedEdgeBySome, edited_all}

-- functions of a pair that is framed stay those of its list
pub function_stays : (a b : HierarchyValue) (Pair : ℕ → ℕ → Type 0) → IsFrame a b Pair → (edges : List Ends) → a.edges ≡ edges → b.edges ≡ edges → (e : ℕ) (dir : Dir) (function : Option (List Run))
    → ((ends : Ends) → slice_get edges e ≡ Some ends → Pair (start_of ends dir) (end_of ends dir)) → list_of b e dir ≡ list_of a e dir
    → IsRebuiltFunction a e dir function → IsRebuiltFunction b e dir function
function_stays a b Pair frame edges of_a of_b e dir None pair list is = list ∙ is
function_stays a b Pair frame edges of_a of_b e dir (Some runs) pair list (some, is, values) = (
  subst (λ (es : List Entry). es ≢ []) (sym list) some,
  is,
  rebuilt_stays a b Pair frame edges of_a of_b e dir (arrival_value runs) pair values,
)

untouched_rebuilt : (s : SettlingValue) → AreSettled s → (e : ℕ) (functions : EdgeFunctions) → (IsTouchedEdgeBySome s.before s.edit e → ⊥) → AreRebuilt s.before e functions
    → AreRebuilt (settled_so_far s) e functions
untouched_rebuilt s are e functions untouched before = λ dir.
    function_stays s.before (settled_so_far s) (UntouchedPair s.before s.edit) (untouched_frame s are) s.before.edges refl refl e dir (function_in functions dir)
    (λ ends at. (e, dir, over s.before.edges e dir ends at, untouched)) (untouched_list s are e dir untouched) (before dir)

-- what is learnt of the sides of an edge, which won't change any more
pub settling_learnt : (s : SettlingValue) (graph : ChordalValue) (arcs : List (List ℕ)) (rebuilt next : RebuiltValue) (known mid : List (Option EdgeFunctions)) (edge : ℕ) (ends : Ends)
    → IsSettling s graph arcs rebuilt known → slice_get graph.edges edge ≡ Some ends → HasFinalSides s edge → Learns s.before (IsSide graph.edges ends) known mid
    → length next.kept ≡ length rebuilt.kept → Keeps s.before next → IsSettling s graph arcs next mid
settling_learnt s graph arcs rebuilt next known mid edge ends old at sides learns size keeps = record {
  are = old.are;
  hierarchy = old.hierarchy;
  roads = old.roads;
  range = old.range;
  pieces = old.pieces;
  size = size ∙ old.size;
  keeps = keeps;
  count = learns.long ∙ old.count;
  functions = λ e functions there. elim (learns.each e) [
    | inl same ↦ old.functions e functions (sym same ∙ there)
    | inr learnt ↦
        let is : learnt.functions ≡ functions = cc (learnt.there, there) in
        let edges = ap (λ (k : ChordalValue). k.edges) old.hierarchy.0 in
        let side : IsLowerSide s.before.edges edge e =
        (let (rank, sides_are) = learnt.asked in let (low, high, which) = sides_are in subst (λ (es : List Ends). IsLowerSide es edge e) edges (ends, rank, at, low, high, which)) in
        elim (sides e side) [
          | inl c ↦ absurd (old.settled e c learnt.before)
          | inr untouched ↦ (inr untouched, untouched_rebuilt s old.are e functions untouched (subst (AreRebuilt s.before e) is learnt.rebuilt))
        ]
  ];
  settled = λ e c none. elim (learns.each e) [
    | inl same ↦ old.settled e c (sym same ∙ none)
    | inr learnt ↦ absurd (cc (learnt.there, none))
  ];
}

-- one edge is settled by what is known
module _ (s : SettlingValue) (are : AreSettled s) (arcs : List (List ℕ)) (roads : AreEdgeArcs s.before.network s.before.order s.before.edges arcs) (known : List (Option EdgeFunctions))
    (final : (e : ℕ) (functions : EdgeFunctions) → slice_get known e ≡ Some (Some functions) → IsFinal s e × AreRebuilt (settled_so_far s) e functions) (t : TouchedEdge)
    (touched : IsTouchedEdgeBySome s.before s.edit t.edge) (fresh : IsSettled s t.edge → ⊥) (sides : HasFinalSides s t.edge)
    (has : (side : ℕ) → IsLowerSide s.before.edges t.edge side → HasFunctions known side) (functions : EdgeFunctions)
    (settled : IsSettledEdge s.before.edges arcs (functions_of (record { network = edited_all s.before.network s.edit; known = known })) t.edge t functions) where
  abbrev pub asked : FunctionsState
  asked = functions_of (record { network = edited_all s.before.network s.edit; known = known })

  abbrev pub now : HierarchyValue
  now = settled_so_far s

  abbrev pub next : HierarchyValue
  next = settled_so_far (settled_with s t)

  knows : (dir : Dir) (u v : ℕ) → LeadsOver s.before.edges t.edge dir u v → KnowsAll now asked u v
  knows dir u v leads = record {
    road = λ a. refl;
    halves = λ m to on first second.
        let halves = halves_at s.before.edges t.edge dir u v m leads first second in
        let (one, one_at) = has halves.first halves.first_side in
        let (two, two_at) = has halves.second halves.second_side in (
          half_known s are.sound (edited_all s.before.network s.edit) known halves.first Down u m one (over s.before.edges halves.first Down (record { low = m; high = u }) halves.to) one_at
              (final halves.first one one_at).1,
          half_known s are.sound (edited_all s.before.network s.edit) known halves.second Up m v two (over s.before.edges halves.second Up (record { low = m; high = v }) halves.on) two_at
              (final halves.second two two_at).1,
        );
  }

  resettled_now : (dir : Dir) (ends : Ends) → slice_get s.before.edges t.edge ≡ Some ends → IsResettledList now (start_of ends dir) (end_of ends dir) (list_in t dir)
  resettled_now = once.resettled_by s arcs roads t asked knows settled.ways

  pub edge_resettled : IsResettledEdge next t
  edge_resettled = once.edge_resettled s are t touched fresh sides resettled_now

  pub more : AreSettled (settled_with s t)
  more = once.more s are t touched fresh sides resettled_now

  new_list : (dir : Dir) → list_of next t.edge dir ≡ list_in t dir
  new_list = once.new_list s are t touched fresh sides resettled_now

  new_function : (dir : Dir) (function : Option (List Run)) (ends : Ends) → slice_get s.before.edges t.edge ≡ Some ends
      → IsValueOf s.before.edges asked (start_of ends dir) (end_of ends dir) (list_in t dir) function → IsRebuiltFunction next t.edge dir function
  new_function dir None ends at empty = new_list dir ∙ empty
  new_function dir (Some runs) ends at (some, is, values) = (
    subst (λ (es : List Entry). es ≢ []) (sym (new_list dir)) some,
    is,
    once.new_values s are t touched fresh sides resettled_now dir runs ends at is.starts (once.least_by s arcs roads t asked knows settled.ways dir runs ends at some values),
  )

  pub new_functions : AreRebuilt next t.edge functions
  new_functions dir = let (ends, at, is) = touched in new_function dir (function_in functions dir) ends at (settled.values dir ends at)

  still_known : (e : ℕ) (kept : EdgeFunctions) → slice_get known e ≡ Some (Some kept) → IsFinal (settled_with s t) e × AreRebuilt next e kept
  still_known e kept at =
      let (is, before) = final e kept at in (
        final_still s t e is,
        λ dir. function_stays now next (FinalPair s) (stays_frame s are t touched fresh) s.before.edges refl refl e dir (function_in kept dir)
            (λ ends there. (e, dir, over s.before.edges e dir ends there, is)) (list_pushed s.before s.edit s.settled t e dir (other_edge s t.edge e is touched fresh)) (before dir),
      )

  pub all_known : t.edge < length known → (e : ℕ) (kept : EdgeFunctions) → slice_get (slice_set known t.edge (Some functions)) e ≡ Some (Some kept)
      → IsFinal (settled_with s t) e × AreRebuilt next e kept
  all_known inside e kept at = elim (cases_eq t.edge e) [
    | inl same ↦
        let here : slice_get (slice_set known t.edge (Some functions)) e ≡ Some (Some functions) =
        subst (λ (k : ℕ). slice_get (slice_set known t.edge (Some functions)) k ≡ Some (Some functions)) same (get_here known t.edge (Some functions) inside) in
        let is : functions ≡ kept = cc (here, at) in
        (subst (IsFinal (settled_with s t)) same (inl (settled_itself s t)), subst (AreRebuilt next e) is (subst (λ (k : ℕ). AreRebuilt next k functions) same new_functions))
    | inr other ↦ still_known e kept (sym (get_other known t.edge e (Some functions) other) ∙ at)
  ]

-- so it holds one edge more
pub settling_more : (s : SettlingValue) (graph : ChordalValue) (arcs : List (List ℕ)) (rebuilt : RebuiltValue) (known : List (Option EdgeFunctions)) (t : TouchedEdge) (functions : EdgeFunctions)
    → IsSettling s graph arcs rebuilt known → IsTouchedEdgeBySome s.before s.edit t.edge → (IsSettled s t.edge → ⊥) → HasFinalSides s t.edge
    → ((side : ℕ) → IsLowerSide graph.edges t.edge side → HasFunctions known side)
    → IsSettledEdge graph.edges arcs (functions_of (record { network = edited_all s.before.network s.edit; known = known })) t.edge t functions
    → IsResettledEdge (settled_so_far (settled_with s t)) t × IsSettling (settled_with s t) graph arcs rebuilt (slice_set known t.edge (Some functions))
settling_more s graph arcs rebuilt known t functions old touched fresh sides has_given settled_given =
    let edges = ap (λ (k : ChordalValue). k.edges) old.hierarchy.0 in
    let has : (side : ℕ) → IsLowerSide s.before.edges t.edge side → HasFunctions known side =
    subst (λ (es : List Ends). (side : ℕ) → IsLowerSide es t.edge side → HasFunctions known side) edges has_given in
    let asked = functions_of (record { network = edited_all s.before.network s.edit; known = known }) in
    let settled : IsSettledEdge s.before.edges arcs asked t.edge t functions = subst (λ (es : List Ends). IsSettledEdge es arcs asked t.edge t functions) edges settled_given in
    let (ends, at, is) = touched in
    let inside = slice_get_within s.before.edges t.edge ends at in
    let count = old.count in (
      edge_resettled s old.are arcs old.roads known old.functions t touched fresh sides has functions settled,
      record {
        are = more s old.are arcs old.roads known old.functions t touched fresh sides has functions settled;
        hierarchy = old.hierarchy;
        roads = old.roads;
        range = old.range;
        pieces = old.pieces;
        size = old.size;
        keeps = old.keeps;
        count = length-set known t.edge (Some functions) ∙ old.count;
        functions = all_known s old.are arcs old.roads known old.functions t touched fresh sides has functions settled (omega (arith, inside, count));
        settled = λ e c none. elim (cases_eq t.edge e) [
          | inl same ↦
              let here : slice_get (slice_set known t.edge (Some functions)) e ≡ Some (Some functions) =
              subst (λ (k : ℕ). slice_get (slice_set known t.edge (Some functions)) k ≡ Some (Some functions)) same (get_here known t.edge (Some functions) (omega (arith, inside, count))) in
              absurd (cc (here, none))
          | inr other ↦ elim (settled_cases s t e c) [
            | inl before ↦ old.settled e before (sym (get_other known t.edge e (Some functions) other) ∙ none)
            | inr same ↦ absurd (other same)
          ]
        ];
      },
    )
