-- One edit resettled, and more edits resettled at once after it, are all of them resettled at once.
use Rattle.std.proofs.Common.{◌≡◌, ◌≢◌, ◌<◌, ◌∙◌, ℕ, List, [], ◌∷◌, Option, Some, None, refl, sym, ap, subst, arith, inl, inr, ltb, true, false}
use Rattle.std.specs.Prelude.{slice_get}
use Rattle.std.proofs.lemmas.List.{ext_get_or}
use Rattle.std.proofs.lemmas.Option.{same_Some}
use Rattle.cu_model.specs.declared.roads.Edit.{Edit}
use Rattle.cu_model.specs.Edits.{edited}
use Rattle.cu_chordal.specs.declared.graph.Ends.{Ends}
use Rattle.cu_chordal.specs.Edges.{LinksRanks}
use Rattle.cu_chordal.specs.Graphs.{HasEdge}
use Rattle.cu_chordal.proofs.Members.{member_at}
use Rattle.cu_interval.specs.declared.ways.Dir.{Dir}
use Rattle.cu_interval.specs.declared.ways.Dir.TheVariants.{Up, Down}
use Rattle.cu_interval.specs.declared.ways.Way.{Way}
use Rattle.cu_interval.specs.declared.ways.Way.TheVariants.{Road, Via}
use Rattle.cu_interval.specs.declared.ways.Entry.{Entry}
use Rattle.cu_interval.specs.Hierarchies.{HierarchyValue, IsHierarchy, end_of, entries_or_none, list_from, list_of, list_of_some, number_from, start_of}
use Rattle.cu_interval.specs.Resettling.{ArrivesIn, IsCandidateIn, IsResettled, IsResettledList, rebuilt, value_by}
use Rattle.cu_resettled.specs.ResettlingAll.{IsResettledAll, IsResettledInTurn, IsTouchedBySome, IsTouchedEdgeBySome, edited_all}
use Rattle.cu_interval.proofs.EndsLaws.{each_number, ends_apart, ends_rise}
use Rattle.cu_interval.proofs.Lookups.{number_found}
use Rattle.cu_interval.proofs.LowLists.{runs_by}
use Rattle.cu_interval.proofs.Rebuilding.{then_at-same}
use Rattle.cu_resettled.proofs.RebuiltBelow.{lists_from_both}
use Rattle.cu_resettled.proofs.ResettledBuilt.{after, resettled_after}
use Rattle.cu_resettled.proofs.ResettledOnce.{list_at}
use Rattle.cu_resettled.proofs.ResettledPairs.{IsTouchedPair, IsUntouched, edge_of_pair, edge_kept, road_off, sides_off, untouched_rebuilt}
use Rattle.cu_resettled.proofs.ResettledRoads.{IsSameRoad, same_arrives, same_back, same_leads}
use Rattle.cu_resettled.proofs.TouchedBySome.{all_links_kept, all_of_one, covered}

-- ranks between which a list isn't empty are the ends of an edge
found_edge : (h : HierarchyValue) (low high : ℕ) (dir : Dir) (o : Option ℕ) → number_from 0 h.edges low high ≡ o → list_of_some h o dir ≢ [] → HasEdge h.edges low high
found_edge h low high dir None e some = absurd (some refl)
found_edge h low high dir (Some k) e some =
    let (j, is, at) = number_found 0 h.edges low high k e in
    member_at h.edges (record { low = low; high = high }) j at

pub edge_up : (h : HierarchyValue) (low high : ℕ) → low < high → list_from h low high ≢ [] → HasEdge h.edges low high
edge_up h low high lt some =
    let up : ltb low high ≡ true = grind (arith, lt) in
    let is : list_from h low high ≡ list_of_some h (number_from 0 h.edges low high) Up = rw up refl in
    found_edge h low high Up (number_from 0 h.edges low high) refl (λ none. some (is ∙ none))

pub edge_down : (h : HierarchyValue) (low high : ℕ) → low < high → list_from h high low ≢ [] → HasEdge h.edges low high
edge_down h low high lt some =
    let down : ltb high low ≡ false = grind (arith, lt) in
    let is : list_from h high low ≡ list_of_some h (number_from 0 h.edges low high) Down = rw down refl in
    found_edge h low high Down (number_from 0 h.edges low high) refl (λ none. some (is ∙ none))

-- the list between two ranks that aren't touched is kept
pub list_kept : (mid : HierarchyValue) (edits : List Edit) (lists : List (List Entry)) → IsHierarchy mid
    → ((edge : ℕ) (dir : Dir) → (IsTouchedEdgeBySome mid edits edge → ⊥) → list_of (after mid edits lists) edge dir ≡ list_of mid edge dir)
    → (x y : ℕ) → IsUntouched mid edits x y → list_from mid x y ≡ list_from (after mid edits lists) x y
list_kept mid edits lists sound kept x y none =
    lists_from_both mid (after mid edits lists) x y (λ one two. one ≡ two) refl refl
    (λ edge dir ends at from to low. edge_kept mid (after mid edits lists) edits sound refl refl kept x y edge dir ends none at from to)

-- the halves of a way between ranks that aren't touched aren't touched either
pub halves_off : (mid : HierarchyValue) (edits : List Edit) → IsHierarchy mid → (u v : ℕ) → IsUntouched mid edits u v
    → (h : HierarchyValue) → h.edges ≡ mid.edges → (m : ℕ) → m < u → m < v → list_from h u m ≢ [] → list_from h m v ≢ []
    → IsUntouched mid edits u m × IsUntouched mid edits m v
halves_off mid edits sound u v (apart, off) h edges m mu mv one two =
    let first = subst (λ es. HasEdge es m u) edges (edge_down h m u mu one) in
    let second = subst (λ es. HasEdge es m v) edges (edge_up h m v mv two) in
    let none = sides_off mid.network mid.order edits m u v apart mu mv ((sound.edges.exact m u).0 first).1 ((sound.edges.exact m v).0 second).1 off in
    (((λ same. omega (arith, mu, same)), none.0), ((λ same. omega (arith, mv, same)), none.1))

module _ (mid : HierarchyValue) (edits : List Edit) (lists : List (List Entry)) (sound : IsHierarchy mid)
    (kept : (edge : ℕ) (dir : Dir) → (IsTouchedEdgeBySome mid edits edge → ⊥) → list_of (after mid edits lists) edge dir ≡ list_of mid edge dir)
    (u v : ℕ) (none : IsUntouched mid edits u v) where
  -- a road between them is the same
  same_between : (a : ℕ) → LinksRanks mid.network mid.order a u v → IsSameRoad mid.network (edited_all mid.network edits) a
  same_between a links = road_off mid.network mid.order edits a u v none.0 links none.1

  pub candidate_on : (way : Way) → IsCandidateIn mid u v way → IsCandidateIn (after mid edits lists) u v way
  candidate_on (Road a) leads =
      same_leads mid.network (edited_all mid.network edits) mid.order a u v (same_between a (leads.0, leads.1, leads.2.0, leads.3, leads.4)) leads
  candidate_on (Via m) (mu, mv, one, two) =
      let (first, second) = halves_off mid edits sound u v none mid refl m mu mv one two in
      (mu, mv, (λ empty. one (list_kept mid edits lists sound kept u m first ∙ empty)), (λ empty. two (list_kept mid edits lists sound kept m v second ∙ empty)))

  candidate_back : (way : Way) → IsCandidateIn (after mid edits lists) u v way → IsCandidateIn mid u v way
  candidate_back (Road a) leads =
      let links : LinksRanks mid.network mid.order a u v = (leads.0, leads.1, all_links_kept mid.network edits a leads.0 leads.1 leads.2.0, leads.3, leads.4) in
      same_leads (edited_all mid.network edits) mid.network mid.order a u v (same_back mid.network (edited_all mid.network edits) a (same_between a links)) leads
  candidate_back (Via m) (mu, mv, one, two) =
      let (first, second) = halves_off mid edits sound u v none (after mid edits lists) refl m mu mv one two in
      (mu, mv, (λ empty. one (sym (list_kept mid edits lists sound kept u m first) ∙ empty)), (λ empty. two (sym (list_kept mid edits lists sound kept m v second) ∙ empty)))

  value_on : (s : ℕ) (way : Way) → IsCandidateIn mid u v way
      → value_by mid.network (rebuilt mid) u v s way ≡ value_by (edited_all mid.network edits) (rebuilt (after mid edits lists)) u v s way
  value_on s (Road a) leads =
      ap (λ (x : ℕ). Some x)
      (same_arrives mid.network (edited_all mid.network edits) a s (same_between a (leads.0, leads.1, leads.2.0, leads.3, leads.4)))
  value_on s (Via m) (mu, mv, one, two) =
      let h = mid in
      let k = after mid edits lists in
      let (first, second) = halves_off mid edits sound u v none mid refl m mu mv one two in
      then_at-same (rebuilt h u m s) (rebuilt k u m s) (rebuilt h m v) (rebuilt k m v) (untouched_rebuilt h k edits sound refl refl kept u m s first)
      (λ x. untouched_rebuilt h k edits sound refl refl kept m v x second)

  -- what is resettled between ranks that aren't touched stays so
  pub settled_on : (entries : List Entry) → IsResettledList mid u v entries → IsResettledList (after mid edits lists) u v entries
  settled_on entries settled =
      runs_by (IsCandidateIn mid u v) (IsCandidateIn (after mid edits lists) u v) (ArrivesIn mid u v) (ArrivesIn (after mid edits lists) u v) entries
      candidate_on candidate_back (λ s a way lt candidate e. sym (value_on s way (candidate_back way candidate)) ∙ e)
      (λ s a way lt candidate e. value_on s way (candidate_back way candidate) ∙ e) settled

module _ (old : HierarchyValue) (edit : Edit) (edits : List Edit) (lists more : List (List Entry)) (sound : IsHierarchy (after old (edit ∷ []) lists))
    (first : IsResettled old edit (after old (edit ∷ []) lists))
    (rest : IsResettledAll (after old (edit ∷ []) lists) edits (after (after old (edit ∷ []) lists) edits more)) where
  -- touched by the first edit alone
  settled_first : (edge : ℕ) (dir : Dir) (ends : Ends) → slice_get old.edges edge ≡ Some ends → IsTouchedEdgeBySome old (edit ∷ edits) edge
      → (IsTouchedBySome (edited old.network edit) old.order edits ends.low ends.high → ⊥)
      → IsResettledList (after (after old (edit ∷ []) lists) edits more) (start_of ends dir) (end_of ends dir) (list_of (after (after old (edit ∷ []) lists) edits more) edge dir)
  settled_first edge dir ends at (other, there, inr later) off =
      let same : other ≡ ends = same_Some other ends (sym there ∙ at) in
      absurd (off (subst (λ (x : Ends). IsTouchedBySome (edited old.network edit) old.order edits x.low x.high) same later))
  settled_first edge dir ends at (other, there, inl touched) off =
      let mid = after old (edit ∷ []) lists in
      let u = start_of ends dir in
      let v = end_of ends dir in
      let rise = ends_rise mid sound edge ends at in
      let none : IsTouchedPair mid.network mid.order edits u v → ⊥ = λ t. off (edge_of_pair mid.network mid.order edits ends dir rise t) in
      let same : list_of (after mid edits more) edge dir ≡ list_of mid edge dir = rest.kept edge dir (λ t.
      let is : t.0 ≡ ends = same_Some t.0 ends (sym t.1 ∙ at) in
      off (subst (λ (x : Ends). IsTouchedBySome (edited old.network edit) old.order edits x.low x.high) is t.2)) in
      subst (IsResettledList (after mid edits more) u v) (sym same)
      (settled_on mid edits more sound rest.kept u v (ends_apart ends dir rise, none) (list_of mid edge dir) (first.resettled edge dir ends at (other, there, touched)))

  composed_after : IsResettledAll old (edit ∷ edits) (after (after old (edit ∷ []) lists) edits more)
  composed_after = record {
    network = refl;
    order = refl;
    edges = refl;
    lists = rest.lists ∙ first.lists;
    kept = λ edge dir off. rest.kept edge dir (λ t. off (t.0, t.1, inr t.2)) ∙ first.kept edge dir (λ t. off (t.0, t.1, inl t.2));
    resettled = λ edge dir ends at touched.
        elim ((covered (edited old.network edit) old.order edits).decided ends.low ends.high) [
          | inl later ↦ rest.resettled edge dir ends at (ends, at, later)
          | inr off ↦ settled_first edge dir ends at touched off
        ];
  }

-- one edit resettled, and more at once after it
pub composed : (old mid new : HierarchyValue) (edit : Edit) (edits : List Edit) → IsHierarchy mid → IsResettled old edit mid → IsResettledAll mid edits new
    → IsResettledAll old (edit ∷ edits) new
composed old mid new edit edits sound first rest =
    let is_mid : mid ≡ after old (edit ∷ []) mid.lists = resettled_after old mid (edit ∷ []) (all_of_one old mid edit first) in
    let is_new : new ≡ after mid edits new.lists = resettled_after mid new edits rest in
    let both : new ≡ after (after old (edit ∷ []) mid.lists) edits new.lists = is_new ∙ ap (λ (h : HierarchyValue). after h edits new.lists) is_mid in
    let second = subst (λ (h : HierarchyValue). IsResettledAll h edits (after (after old (edit ∷ []) mid.lists) edits new.lists)) is_mid
    (subst (IsResettledAll mid edits) both rest) in
    subst (IsResettledAll old (edit ∷ edits)) (sym both)
    (composed_after old edit edits mid.lists new.lists (subst IsHierarchy is_mid sound) (subst (IsResettled old edit) is_mid first) second)

-- no edit leaves the hierarchy
pub of_none : (h : HierarchyValue) → IsResettledAll h [] h
of_none h = record {
  network = refl;
  order = refl;
  edges = refl;
  lists = refl;
  kept = λ edge dir off. refl;
  resettled = λ edge dir ends at touched. absurd touched.2;
}

pub none_leaves : (old new : HierarchyValue) → IsResettledAll old [] new → new ≡ old
none_leaves old new settled =
    let same : new.lists ≡ old.lists = ext_get_or [] new.lists old.lists settled.lists (λ k lt.
    let (edge, dir, number) = each_number k in
    let is : list_of new edge dir ≡ list_of old edge dir = settled.kept edge dir (λ t. t.2) in
    list_at new.lists k ∙ subst (λ (n : ℕ). entries_or_none (slice_get new.lists n) ≡ entries_or_none (slice_get old.lists n)) number is ∙ sym (list_at old.lists k)) in
    resettled_after old new [] settled ∙ ap (after old []) same

-- edits resettled in turn are resettled at once
pub in_turn_at_once : (old new : HierarchyValue) (edits : List Edit) → IsResettledInTurn old edits new → IsResettledAll old edits new
in_turn_at_once old new [] same = subst (IsResettledAll old []) (sym same) (of_none old)
in_turn_at_once old new (edit ∷ edits) (mid, sound, first, rest) = composed old mid new edit edits sound first (in_turn_at_once mid new edits rest)
