-- Plain functions taken from packed runs, one edge after the other; and what a settler holds once it has gone over to them.
use Rattle.std.proofs.Common.{◌≡◌, ◌<◌, ◌+◌, ◌∙◌, ℕ, List, Option, Some, None, ap, refl, sym, subst, arith, inl, inr, length}
use Rattle.std.specs.Prelude.{All, slice_get, slice_set}
use Rattle.std.specs.List.{Contains}
use Rattle.std.proofs.lemmas.Bool.{cases_eq}
use Rattle.std.proofs.lemmas.Option.{slice_get_within}
use Rattle.std.proofs.lemmas.List.{length-set}
use Rattle.cu_model.proofs.RoadLaws.{all_at}
use Rattle.cu_model.proofs.ListLaws.{get_here, get_other}
use Rattle.cu_arrival.specs.declared.runs.Run.{Run}
use Rattle.cu_chordal.specs.Graphs.{ChordalValue}
use Rattle.cu_chordal.proofs.Members.{member_at, place_of}
use Rattle.cu_interval.specs.declared.ways.Dir.{Dir}
use Rattle.cu_interval.specs.declared.ways.TouchedEdge.{TouchedEdge}
use Rattle.cu_interval.specs.Hierarchies.{HierarchyValue, end_of, start_of}
use Rattle.cu_unpack.specs.Rebuilds.{IsRebuiltFunction}
use Rattle.cu_unpack.specs.RebuiltRuns.{IsRebuiltRuns, PackedValue}
use Rattle.cu_edits.specs.declared.settler_state.PlainState.{PlainState}
use Rattle.cu_edits.specs.declared.edge_functions.EdgeFunctions.{EdgeFunctions}
use Rattle.cu_edits.specs.Settling.{IsSettled, SettlingValue, numbers_of, settled_so_far}
use Rattle.cu_edits.specs.Steps.Packed.{IsSettlingPacked}
use Rattle.cu_edits.specs.Steps.TurningPlain.{ArePlainOf, SayLists, SaysList, SaysSame}
use Rattle.cu_edits.specs.Steps.Holding.{IsSettling}
use Rattle.cu_edits.specs.Steps.Known.{HasFunctions, function_in}
use Rattle.cu_edits.specs.Steps.Moving.{IsUnmoved, LeadsUpTo, MovedValue, StandingPair}
use Rattle.cu_edits.proofs.EditSettling.{function_stays}
use Rattle.cu_edits.proofs.Replaced.{number_among, number_of_one}
use Rattle.cu_edits.proofs.Sides.{list_at, over}

-- the functions of the first of these edges are known
pub record AreSaid (h : HierarchyValue) (settled : List TouchedEdge) (moved : MovedValue) (index : ℕ) (known : List (Option EdgeFunctions)) : Type 0 where
  pub count : length known ≡ length h.edges
  pub functions : (edge : ℕ) (functions : EdgeFunctions) → slice_get known edge ≡ Some (Some functions) → Contains (numbers_of settled) edge × SayLists h moved edge functions
  pub has : (k : ℕ) (t : TouchedEdge) → k < index → slice_get settled k ≡ Some t → HasFunctions known t.edge

-- none so far
pub said_none : (h : HierarchyValue) (settled : List TouchedEdge) (moved : MovedValue) (known : List (Option EdgeFunctions)) → length known ≡ length h.edges
    → All (λ (one : Option EdgeFunctions). one ≡ None) known → AreSaid h settled moved 0 known
said_none h settled moved known long none = record {
  count = long;
  functions = λ e functions at. let no = all_at (λ (one : Option EdgeFunctions). one ≡ None) known e (Some functions) none at in absurd (cc no);
  has = λ k t lt at. absurd (omega (arith, lt));
}

still_has : (known : List (Option EdgeFunctions)) (edge e : ℕ) (functions : EdgeFunctions) → edge < length known → HasFunctions known e → HasFunctions (slice_set known edge (Some functions)) e
still_has known edge e functions inside (before, at) = elim (cases_eq edge e) [
  | inl same ↦ (functions, subst (λ (k : ℕ). slice_get (slice_set known edge (Some functions)) k ≡ Some (Some functions)) same (get_here known edge (Some functions) inside))
  | inr other ↦ (before, get_other known edge e (Some functions) other ∙ at)
]

pub said_more : (h : HierarchyValue) (settled : List TouchedEdge) (moved : MovedValue) (index : ℕ) (known : List (Option EdgeFunctions)) (t : TouchedEdge) (functions : EdgeFunctions)
    → AreSaid h settled moved index known → slice_get settled index ≡ Some t → t.edge < length h.edges → SayLists h moved t.edge functions
    → AreSaid h settled moved (index + 1) (slice_set known t.edge (Some functions))
said_more h settled moved index known t functions old at inside says =
    let count = old.count in
    let here = get_here known t.edge (Some functions) (omega (arith, inside, count)) in
    record {
      count = length-set known t.edge (Some functions) ∙ old.count;
      functions = λ e given there. elim (cases_eq t.edge e) [
        | inl same ↦
            let now : slice_get (slice_set known t.edge (Some functions)) e ≡ Some (Some functions) =
            subst (λ (k : ℕ). slice_get (slice_set known t.edge (Some functions)) k ≡ Some (Some functions)) same here in
            let is : functions ≡ given = cc (now, there) in (
              subst (Contains (numbers_of settled)) same (number_among settled t (member_at settled t index at)),
              subst (SayLists h moved e) is (subst (λ (k : ℕ). SayLists h moved k functions) same says),
            )
        | inr other ↦ old.functions e given (sym (get_other known t.edge e (Some functions) other) ∙ there)
      ];
      has = λ k one lt there. elim (cases_eq k index) [
        | inl same ↦
            let is : t ≡ one = cc (at, subst (λ (i : ℕ). slice_get settled i ≡ Some one) same there) in
            (functions, subst (λ (x : TouchedEdge). slice_get (slice_set known t.edge (Some functions)) x.edge ≡ Some (Some functions)) is here)
        | inr other ↦ still_has known t.edge one.edge functions (omega (arith, inside, count)) (old.has k one (omega (arith, lt, other)) there)
      ];
    }

pub said_all : (h : HierarchyValue) (settled : List TouchedEdge) (moved : MovedValue) (index : ℕ) (known : List (Option EdgeFunctions)) → AreSaid h settled moved index known → index ≡ length settled
    → (edge : ℕ) → Contains (numbers_of settled) edge → slice_get known edge ≡ Some None → ⊥
said_all h settled moved index known old all edge c none =
    let (t, among, same) = number_of_one settled edge c in
    let (k, at) = place_of settled t among in
    let (functions, there) = old.has k t (let inside = slice_get_within settled k t at in omega (arith, inside, all)) at in
    let here : slice_get known edge ≡ Some (Some functions) = subst (λ (e : ℕ). slice_get known e ≡ Some (Some functions)) same there in
    cc (here, none)

-- plain functions that say the same as rebuilt packed runs are the rebuilt ones
says_rebuilt : (h : HierarchyValue) (edge : ℕ) (dir : Dir) (packed function : Option (List Run)) → SaysSame packed function → IsRebuiltRuns h edge dir packed → IsRebuiltFunction h edge dir function
says_rebuilt h edge dir None None says is = is
says_rebuilt h edge dir None (Some runs) says is = absurd says
says_rebuilt h edge dir (Some packed) None says is = absurd says
says_rebuilt h edge dir (Some packed) (Some runs) (sound, same) (some, of, onward, values) = (some, sound, λ ends at t. values ends at t ∙ ap (λ (x : ℕ). Some x) (sym (same t)))

-- so is the function of a list that stands
module _ (s : SettlingValue) (graph : ChordalValue) (arcs : List (List ℕ)) (packed : PackedValue) (moved : MovedValue) (old : IsSettlingPacked s graph arcs packed moved) (edge : ℕ)
    (settled : IsSettled s edge) (dir : Dir) (all : moved.low ≡ 0) where
  leads_up : LeadsUpTo s.before.edges moved.low edge
  leads_up = let (ends, at, touched) = old.are.touched edge settled in (ends, at, omega (arith, all))

  stands_rebuilt : (function : Option (List Run)) → IsUnmoved moved edge dir → IsRebuiltFunction s.before edge dir function → IsRebuiltFunction (settled_so_far s) edge dir function
  stands_rebuilt function unmoved is =
      let now = settled_so_far s in
      let (ends, at, touched) = old.are.touched edge settled in
      let leads = over s.before.edges edge dir ends at in
      let u = start_of ends dir in
      let v = end_of ends dir in
      let pair : StandingPair s moved u v = (edge, dir, leads, inl settled, unmoved) in
      function_stays s.before now (StandingPair s moved) old.stands s.before.edges refl refl edge dir function
      (λ other there. (edge, dir, over s.before.edges edge dir other there, inl settled, unmoved))
      (sym (list_at s.before now old.are.sound refl edge dir u v leads) ∙ sym (old.stands.lists u v pair) ∙ list_at s.before s.before old.are.sound refl edge dir u v leads) is

  list_rebuilt : (function : Option (List Run)) → SaysList s.before moved edge dir function → IsRebuiltFunction (settled_so_far s) edge dir function
  list_rebuilt function (inl (unmoved, is)) = stands_rebuilt function unmoved is
  list_rebuilt function (inr (given, moves, says)) = says_rebuilt (settled_so_far s) edge dir given function says ((old.moves edge dir given moves).1 leads_up)

-- so a settler may go over
pub gone_over : (s : SettlingValue) (graph : ChordalValue) (arcs : List (List ℕ)) (packed : PackedValue) (moved : MovedValue) (held : PlainState) → IsSettlingPacked s graph arcs packed moved
    → moved.low ≡ 0 → ArePlainOf s.before s.settled moved held → IsSettling s graph arcs held.rebuilt held.known.items
gone_over s graph arcs packed moved held old all plain = record {
  are = old.are;
  hierarchy = old.parts.hierarchy;
  roads = old.parts.roads;
  range = old.parts.range;
  pieces = old.parts.pieces;
  size = plain.size;
  keeps = plain.keeps;
  count = plain.count;
  functions = λ e functions at.
      let (settled, says) = plain.functions e functions at in
      (inl settled, λ dir. list_rebuilt s graph arcs packed moved old e settled dir all (function_in functions dir) (says dir));
  settled = plain.known;
}
