-- Every hierarchy has one that is resettled by given edits: its lists are settled one after the other, those from lower ends first.
use Rattle.std.proofs.Common.{◌≡◌, ◌≢◌, ◌≤◌, ◌<◌, ◌∙◌, ℕ, zero, suc, List, [], ◌∷◌, Some, refl, sym, ap, subst, arith, inl, inr, length, get_or}
use Rattle.std.specs.Prelude.{All, slice_get, slice_set}
use Rattle.std.proofs.lemmas.Bool.{cases_eq, cases_lt}
use Rattle.std.proofs.lemmas.List.{length-set}
use Rattle.std.proofs.lemmas.Option.{same_Some, slice_get-get_or, slice_get_cases, slice_get_within}
use Rattle.cu_model.specs.declared.roads.Edit.{Edit}
use Rattle.cu_model.specs.Edits.{edited}
use Rattle.cu_model.specs.Networks.{IsNetwork, NetworkValue}
use Rattle.cu_model.specs.Orders.{OrderValue}
use Rattle.cu_model.proofs.EditLaws.{nodes_edited}
use Rattle.cu_model.proofs.ListLaws.{get_here, get_other}
use Rattle.cu_model.proofs.RoadLaws.{all_at}
use Rattle.cu_chordal.specs.declared.graph.Ends.{Ends}
use Rattle.cu_chordal.specs.Edges.{ListsEdges}
use Rattle.cu_chordal.specs.Graphs.{IsChordal}
use Rattle.cu_interval.specs.declared.ways.Dir.{Dir}
use Rattle.cu_interval.specs.declared.ways.Dir.TheVariants.{Up, Down}
use Rattle.cu_interval.specs.declared.ways.Way.{Way}
use Rattle.cu_interval.specs.declared.ways.Way.TheVariants.{Road, Via}
use Rattle.cu_interval.specs.declared.ways.Entry.{Entry}
use Rattle.cu_interval.specs.Hierarchies.{HierarchyValue, IsHierarchy, IsWellFormed, end_of, entries_or_none, list_number, list_of, start_of}
use Rattle.cu_interval.specs.Resettling.{ArrivesIn, IsCandidateIn, IsResettled, IsResettledList}
use Rattle.cu_resettled.specs.ResettlingAll.{IsResettledAll, IsResettledInTurn, IsTouchedBySome, IsTouchedEdgeBySome, LeaveNetworks, edited_all}
use Rattle.cu_interval.specs.WayLists.{IsWayList}
use Rattle.cu_interval.proofs.EndsLaws.{below_low, ends_apart, ends_rise, number_below, number_edge, number_parts, number_within}
use Rattle.cu_resettled.proofs.ListThere.{AreFormedBelow, list_there}
use Rattle.cu_resettled.proofs.RebuiltBelow.{formed_low}
use Rattle.cu_resettled.proofs.ResettledBuilt.{after}
use Rattle.cu_resettled.proofs.ResettledInTurn.{candidate_on, edge_down, edge_up, in_turn_at_once}
use Rattle.cu_resettled.proofs.ResettledOnce.{AreLowBelow, AreSameBelow, all_one, settled_there}
use Rattle.cu_resettled.proofs.ResettledPairs.{IsTouchedPair, IsUntouched, edge_of_pair}
use Rattle.cu_resettled.proofs.RunsThere.{candidates_alone, no_runs}
use Rattle.cu_resettled.proofs.TouchedBySome.{all_links_edited, all_links_kept, covered, one_of_all}
use Rattle.cu_resettled.proofs.Unmoved.{edge}

-- the lists of a hierarchy with the first so many settled, those of edges that are touched
record IsSettledTo (old : HierarchyValue) (edits : List Edit) (count : ℕ) (lists : List (List Entry)) : Type 0 where
  long : length lists ≡ length old.lists
  kept : (edge : ℕ) (dir : Dir) → (IsTouchedEdgeBySome old edits edge → ⊥) → list_of (after old edits lists) edge dir ≡ list_of old edge dir
  resettled : (edge : ℕ) (dir : Dir) (ends : Ends) → slice_get old.edges edge ≡ Some ends
      → IsTouchedBySome old.network old.order edits ends.low ends.high → list_number edge dir < count
      → IsResettledList (after old edits lists) (start_of ends dir) (end_of ends dir) (list_of (after old edits lists) edge dir)

-- an edge with a lower lower end has lower list numbers
numbers_below : (h : HierarchyValue) → IsHierarchy h → (e f : ℕ) (c d : Dir) (x y : Ends) → slice_get h.edges e ≡ Some x → slice_get h.edges f ≡ Some y
    → x.low < y.low → list_number e c < list_number f d
numbers_below h sound e f c d x y at there lt = ordered e f c d (number_below h.edges sound.graph.rising e f x y at there lt)
  where
    ordered : (e f : ℕ) (c d : Dir) → e < f → list_number e c < list_number f d
    ordered e f Up Up less = omega (arith, less)
    ordered e f Up Down less = omega (arith, less)
    ordered e f Down Up less = omega (arith, less)
    ordered e f Down Down less = omega (arith, less)

module _ (old : HierarchyValue) (edits : List Edit) (sound : IsHierarchy old) (count : ℕ) (lists : List (List Entry)) (stage : IsSettledTo old edits count lists) where
  off_edge : (edge : ℕ) (ends : Ends) → slice_get old.edges edge ≡ Some ends → (IsTouchedBySome old.network old.order edits ends.low ends.high → ⊥)
      → IsTouchedEdgeBySome old edits edge → ⊥
  off_edge edge ends at off (other, there, touched) =
      let same : other ≡ ends = same_Some other ends (sym there ∙ at) in
      off (subst (λ (x : Ends). IsTouchedBySome old.network old.order edits x.low x.high) same touched)

  -- a way between ranks that aren't touched is well formed as before
  formed_on : (u v : ℕ) → IsUntouched old edits u v → (way : Way) → IsWellFormed old u v way → IsWellFormed (after old edits lists) u v way
  formed_on u v none (Road a) leads = candidate_on old edits lists sound stage.kept u v none (Road a) leads
  formed_on u v none (Via m) (mu, mv, first, second, one, two) =
      let on = candidate_on old edits lists sound stage.kept u v none (Via m) (mu, mv, one, two) in
      (mu, mv, first, second, on.2, on.3)

  candidate_formed : (u v : ℕ) (way : Way) → IsCandidateIn (after old edits lists) u v way → IsWellFormed (after old edits lists) u v way
  candidate_formed u v (Road a) leads = leads
  candidate_formed u v (Via m) (mu, mv, one, two) =
      (mu, mv, edge_down (after old edits lists) m u mu one, edge_up (after old edits lists) m v mv two, one, two)

  formed_at : (edge : ℕ) (dir : Dir) (ends : Ends) → slice_get old.edges edge ≡ Some ends → list_number edge dir < count
      → All (λ (entry : Entry). IsWellFormed (after old edits lists) (start_of ends dir) (end_of ends dir) entry.way) (list_of (after old edits lists) edge dir)
  formed_at edge dir ends at lt =
      let u = start_of ends dir in
      let v = end_of ends dir in
      let h = after old edits lists in
      elim ((covered old.network old.order edits).decided ends.low ends.high) [
        | inl touched ↦ λ i d inside.
            candidate_formed u v _ (candidates_alone (IsCandidateIn h u v) (ArrivesIn h u v) (list_of h edge dir) (stage.resettled edge dir ends at touched lt) i d inside)
        | inr off ↦
            let rise = ends_rise old sound edge ends at in
            let none : IsTouchedPair old.network old.order edits u v → ⊥ = λ t. off (edge_of_pair old.network old.order edits ends dir rise t) in
            subst (All (λ (entry : Entry). IsWellFormed h u v entry.way)) (sym (stage.kept edge dir (off_edge edge ends at off)))
            (λ i d inside. formed_on u v (ends_apart ends dir rise, none) _ (sound.formed edge dir ends at i d inside))
      ]

  formed_below : (e : ℕ) (d : Dir) (ends : Ends) → slice_get old.edges e ≡ Some ends → list_number e d ≤ count → AreFormedBelow (after old edits lists) ends.low
  formed_below e d ends at le edge dir other there lt =
      let less = numbers_below old sound edge e dir d other ends there at lt in
      formed_at edge dir other there (omega (arith, less, le))

  -- the next list is that of an edge that isn't touched
  next_kept : (e : ℕ) (d : Dir) (ends : Ends) → count ≡ list_number e d → slice_get old.edges e ≡ Some ends
      → (IsTouchedBySome old.network old.order edits ends.low ends.high → ⊥) → IsSettledTo old edits (suc count) lists
  next_kept e d ends number at off = record {
    long = stage.long;
    kept = stage.kept;
    resettled = λ edge dir other there touched lt.
        elim (cases_eq (list_number edge dir) count) [
          | inl same ↦
              let is = (number_parts edge e dir d (same ∙ number)).0 in
              absurd (off_edge e ends at off (subst (IsTouchedEdgeBySome old edits) is (other, there, touched)))
          | inr less ↦ stage.resettled edge dir other there touched (omega (arith, less, lt))
        ];
  }

-- a list in its place
abbrev placed : List (List Entry) → ℕ → Dir → List Entry → List (List Entry)
placed lists e d entries = slice_set lists (list_number e d) entries

-- the next list is that of an edge that is touched, and settled
module _ (old : HierarchyValue) (edits : List Edit) (sound : IsHierarchy old) (count : ℕ) (lists : List (List Entry)) (stage : IsSettledTo old edits count lists)
    (e : ℕ) (d : Dir) (ends : Ends) (number : count ≡ list_number e d) (within : count < length old.lists) (at : slice_get old.edges e ≡ Some ends)
    (touched : IsTouchedBySome old.network old.order edits ends.low ends.high) (entries : List Entry)
    (settled : IsResettledList (after old edits lists) (start_of ends d) (end_of ends d) entries) where
  other_list : (edge : ℕ) (dir : Dir) → list_number edge dir ≢ list_number e d
      → list_of (after old edits (placed lists e d entries)) edge dir ≡ list_of (after old edits lists) edge dir
  other_list edge dir other = ap entries_or_none (get_other lists (list_number e d) (list_number edge dir) entries (λ same. other (sym same)))

  this_list : list_of (after old edits (placed lists e d entries)) e d ≡ entries
  this_list = let long = stage.long in ap entries_or_none (get_here lists (list_number e d) entries (omega (arith, number, within, long)))

  same_below : (low : ℕ) → low ≤ ends.low → AreSameBelow (after old edits lists) (after old edits (placed lists e d entries)) low
  same_below low le edge dir other there lt =
      sym (other_list edge dir (λ same.
      let is = (number_parts edge e dir d same).0 in
      let alike : other ≡ ends = same_Some other ends (sym there ∙ ap (slice_get old.edges) is ∙ at) in
      let lows : other.low ≡ ends.low = ap (λ (x : Ends). x.low) alike in
      absurd (omega (arith, lt, le, lows))))

  falls : (edge : ℕ) (dir : Dir) (other : Ends) → slice_get old.edges edge ≡ Some other → list_number edge dir ≤ count → AreLowBelow (after old edits lists) other.low
  falls edge dir other there le number way lower at_lower lt =
      λ i x inside. formed_low (after old edits lists) (start_of lower way) (end_of lower way) _
      (formed_below old edits sound count lists stage edge dir other there le number way lower at_lower lt i x inside)

  settled_here : (other : Ends) → slice_get old.edges e ≡ Some other
      → IsResettledList (after old edits (placed lists e d entries)) (start_of other d) (end_of other d) (list_of (after old edits (placed lists e d entries)) e d)
  settled_here other there =
      let new = after old edits (placed lists e d entries) in
      let alike : ends ≡ other = same_Some ends other (sym at ∙ there) in
      subst (λ (x : Ends). IsResettledList new (start_of x d) (end_of x d) (list_of new e d)) alike
      (subst (IsResettledList new (start_of ends d) (end_of ends d)) (sym this_list)
      (settled_there old edits lists (placed lists e d entries) ends.low (start_of ends d) (end_of ends d) (falls e d ends at (omega (arith, number))) (below_low ends d)
      (same_below ends.low (omega arith)) entries settled))

  settled_before : (edge : ℕ) (dir : Dir) (other : Ends) → slice_get old.edges edge ≡ Some other → IsTouchedBySome old.network old.order edits other.low other.high
      → list_number edge dir < count
      → IsResettledList (after old edits (placed lists e d entries)) (start_of other dir) (end_of other dir) (list_of (after old edits (placed lists e d entries)) edge dir)
  settled_before edge dir other there by lt =
      let new = after old edits (placed lists e d entries) in
      let u = start_of other dir in
      let v = end_of other dir in
      let list = list_of (after old edits lists) edge dir in
      let le : other.low ≤ ends.low = elim (cases_lt ends.low other.low) [
        | inl less ↦ let over = numbers_below old sound e edge d dir ends other at there less in omega (arith, over, lt, number)
        | inr most ↦ most
      ] in
      subst (IsResettledList new u v) (sym (other_list edge dir (λ same. absurd (omega (arith, same, lt, number)))))
      (settled_there old edits lists (placed lists e d entries) other.low u v (falls edge dir other there (omega (arith, lt))) (below_low other dir)
      (same_below other.low le) list (stage.resettled edge dir other there by lt))

  next_settled : IsSettledTo old edits (suc count) (placed lists e d entries)
  next_settled = record {
    long = length-set lists (list_number e d) entries ∙ stage.long;
    kept = λ edge dir off.
        other_list edge dir (λ same. off (subst (IsTouchedEdgeBySome old edits) (sym (number_parts edge e dir d same).0) (ends, at, touched)))
        ∙ stage.kept edge dir off;
    resettled = λ edge dir other there by lt.
        let new = after old edits (placed lists e d entries) in
        elim (cases_eq (list_number edge dir) count) [
          | inl same ↦
              let parts = number_parts edge e dir d (same ∙ number) in
              let is : slice_get old.edges e ≡ Some other = subst (λ (k : ℕ). slice_get old.edges k ≡ Some other) parts.0 there in
              subst (λ (k : ℕ). IsResettledList new (start_of other dir) (end_of other dir) (list_of new k dir)) (sym parts.0)
              (subst (λ (x : Dir). IsResettledList new (start_of other x) (end_of other x) (list_of new e x)) (sym parts.1) (settled_here other is))
          | inr less ↦ settled_before edge dir other there by (omega (arith, less, lt))
        ];
  }

stages : (old : HierarchyValue) (edits : List Edit) → IsHierarchy old → (count : ℕ) → count ≤ length old.lists → (lists : List (List Entry)) × IsSettledTo old edits count lists
stages old edits sound zero le = (
  old.lists,
  record {
    long = refl;
    kept = λ edge dir off. refl;
    resettled = λ edge dir ends at touched lt. absurd (omega (arith, lt));
  },
)
stages old edits sound (suc count) le =
    let (lists, stage) = stages old edits sound count (omega (arith, le)) in
    let long = sound.lists in
    let (e, d, ends, number, at) = number_edge old.edges count (omega (arith, le, long)) in
    elim ((covered old.network old.order edits).decided ends.low ends.high) [
      | inl touched ↦
          let formed = formed_below old edits sound count lists stage e d ends at (omega (arith, number)) in
          let (entries, settled) = list_there (after old edits lists) ends.low formed (start_of ends d) (end_of ends d) (below_low ends d) in
          (placed lists e d entries, next_settled old edits sound count lists stage e d ends number (omega (arith, le)) at touched entries settled)
      | inr off ↦ (lists, next_kept old edits sound count lists stage e d ends number at off)
    ]

-- edits leave the nodes and the edges of a network
pub nodes_all : (g : NetworkValue) (edits : List Edit) → (edited_all g edits).nodes ≡ g.nodes
nodes_all g [] = refl
nodes_all g (edit ∷ edits) = nodes_all (edited g edit) edits ∙ nodes_edited g edit

pub edges_all : (g : NetworkValue) (o : OrderValue) (edits : List Edit) (edges : List Ends) → ListsEdges g o edges → ListsEdges (edited_all g edits) o edges
edges_all g o edits edges listed = record {
  sorted = listed.sorted;
  exact = λ x y. (
    (λ has. let (less, is) = (listed.exact x y).0 has in (less, edge g (edited_all g edits) o (all_links_edited g edits) x y is)),
    (λ both. (listed.exact x y).1 (both.0, edge (edited_all g edits) g o (all_links_kept g edits) x y both.1)),
  );
}

list_spelled : (h : HierarchyValue) → IsHierarchy h → (edge : ℕ) (dir : Dir) → IsWayList (list_of h edge dir)
list_spelled h sound edge dir =
    elim (slice_get_cases h.lists (list_number edge dir)).1 [
      | inl (list, inside, at, same) ↦ subst IsWayList (sym (ap entries_or_none at)) (all_at IsWayList h.lists (list_number edge dir) list sound.spelled at)
      | inr past ↦ subst IsWayList (sym (ap entries_or_none past.1)) (no_runs (λ way. ⊥) (λ s way a. ⊥) (λ way none. none)).spelled
    ]

-- with all lists settled it is a hierarchy, and the resettled one
module _ (old : HierarchyValue) (edits : List Edit) (sound : IsHierarchy old) (network : IsNetwork (edited_all old.network edits)) (lists : List (List Entry))
    (stage : IsSettledTo old edits (length old.lists) lists) where
  number_there : (edge : ℕ) (dir : Dir) (ends : Ends) → slice_get old.edges edge ≡ Some ends → list_number edge dir < length old.lists
  number_there edge dir ends at =
      let long = sound.lists in
      let lt = number_within edge (length old.edges) dir (slice_get_within old.edges edge ends at) in
      omega (arith, lt, long)

  spelled_at : (edge : ℕ) (dir : Dir) (ends : Ends) → slice_get old.edges edge ≡ Some ends → IsWayList (list_of (after old edits lists) edge dir)
  spelled_at edge dir ends at =
      elim ((covered old.network old.order edits).decided ends.low ends.high) [
        | inl touched ↦ (stage.resettled edge dir ends at touched (number_there edge dir ends at)).spelled
        | inr off ↦ subst IsWayList (sym (stage.kept edge dir (off_edge old edits sound (length old.lists) lists stage edge ends at off))) (list_spelled old sound edge dir)
      ]

  all_spelled : All IsWayList lists
  all_spelled k d lt =
      let long = stage.long in
      let count = sound.lists in
      let (edge, dir, ends, number, at) = number_edge old.edges k (omega (arith, lt, long, count)) in
      let is : slice_get lists (list_number edge dir) ≡ Some (get_or lists k d) =
      subst (λ (n : ℕ). slice_get lists n ≡ Some (get_or lists k d)) number (slice_get-get_or lists k d lt) in
      subst IsWayList (ap entries_or_none is) (spelled_at edge dir ends at)

  settled_sound : IsHierarchy (after old edits lists)
  settled_sound =
      let g = old.network in
      let nodes = nodes_all g edits in
      record {
        network = network;
        order = sound.order;
        same = sound.same ∙ sym nodes;
        graph = subst (λ (n : ℕ). IsChordal (record { ranks = n; edges = old.edges })) (sym nodes) sound.graph;
        edges = edges_all g old.order edits old.edges sound.edges;
        lists = stage.long ∙ sound.lists;
        spelled = all_spelled;
        formed = λ number dir ends at. formed_at old edits sound (length old.lists) lists stage number dir ends at (number_there number dir ends at);
      }

  settled_all : IsResettledAll old edits (after old edits lists)
  settled_all = record {
    network = refl;
    order = refl;
    edges = refl;
    lists = stage.long;
    kept = stage.kept;
    resettled = λ number dir ends at touched.
        let same : touched.0 ≡ ends = same_Some touched.0 ends (sym touched.1 ∙ at) in
        stage.resettled number dir ends at (subst (λ (x : Ends). IsTouchedBySome old.network old.order edits x.low x.high) same touched.2) (number_there number dir ends at);
  }

-- edits that leave a network leave a resettled hierarchy
pub all_there : (old : HierarchyValue) (edits : List Edit) → IsHierarchy old → IsNetwork (edited_all old.network edits)
    → (new : HierarchyValue) × IsHierarchy new × IsResettledAll old edits new
all_there old edits sound network =
    let (lists, stage) = stages old edits sound (length old.lists) (omega arith) in
    (after old edits lists, settled_sound old edits sound network lists stage, settled_all old edits sound network lists stage)

-- one edit does
pub one_there : (old : HierarchyValue) (edit : Edit) → IsHierarchy old → IsNetwork (edited old.network edit)
    → (new : HierarchyValue) × IsHierarchy new × IsResettled old edit new
one_there old edit sound network =
    let (new, is, settled) = all_there old (edit ∷ []) sound network in
    (new, is, one_of_all old new edit settled)

turns_there : (old : HierarchyValue) (edits : List Edit) → IsHierarchy old → LeaveNetworks old.network edits
    → (new : HierarchyValue) × IsHierarchy new × IsResettledInTurn old edits new
turns_there old [] sound leave = (old, sound, refl)
turns_there old (edit ∷ edits) sound (network, leave) =
    let (mid, between, first) = one_there old edit sound network in
    let (new, is, rest) = turns_there mid edits between (subst (λ (g : NetworkValue). LeaveNetworks g edits) (sym first.network) leave) in
    (new, is, (mid, between, first, rest))

-- what is resettled at once is resettled in turn
pub at_once_in_turn : (old new : HierarchyValue) (edits : List Edit) → IsHierarchy old → IsHierarchy new → LeaveNetworks old.network edits
    → IsResettledAll old edits new → IsResettledInTurn old edits new
at_once_in_turn old new edits sound after_all leave settled =
    let (other, is, turns) = turns_there old edits sound leave in
    let same : other ≡ new = all_one old other new edits (in_turn_at_once old other edits turns) settled sound is after_all in
    subst (IsResettledInTurn old edits) same turns
