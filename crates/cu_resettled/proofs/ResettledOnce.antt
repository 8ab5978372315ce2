-- Edits leave one hierarchy that is resettled by them at once, built or not.
use Rattle.std.proofs.Common.{◌≡◌, ◌<◌, ◌*◌, ◌∙◌, ℕ, zero, suc, List, [], ◌∷◌, Option, Some, None, length, get_or, refl, sym, ap, subst, arith, inl, inr, min}
use Rattle.std.specs.Prelude.{All, slice_get, unwrap_or}
use Rattle.std.proofs.lemmas.List.{ext_get_or}
use Rattle.std.proofs.lemmas.Option.{unwrap_or-slice_get}
use Rattle.cu_model.specs.declared.roads.Edit.{Edit}
use Rattle.cu_chordal.specs.declared.graph.Ends.{Ends}
use Rattle.cu_interval.specs.declared.ways.Dir.{Dir}
use Rattle.cu_interval.specs.declared.ways.Way.{Way}
use Rattle.cu_interval.specs.declared.ways.Way.TheVariants.{Road, Via}
use Rattle.cu_interval.specs.declared.ways.Entry.{Entry}
use Rattle.cu_interval.specs.Hierarchies.{HierarchyValue, IsHierarchy, end_of, entries_or_none, list_from, list_of, start_of}
use Rattle.cu_interval.specs.Resettling.{ArrivesIn, IsCandidateIn, IsResettled, IsResettledList, rebuilt, value_by}
use Rattle.cu_resettled.specs.ResettlingAll.{IsResettledAll, edited_all}
use Rattle.cu_interval.proofs.Unique.{runs_unique}
use Rattle.cu_interval.proofs.EndsLaws.{below_low, number_edge}
use Rattle.cu_interval.proofs.Rebuilding.{then_at-same}
use Rattle.cu_interval.proofs.LowLists.{runs_by}
use Rattle.cu_resettled.proofs.RebuiltBelow.{AgreesBelow, IsLowWay, formed_low, lists_from_both, rebuilt_below}
use Rattle.cu_resettled.proofs.ResettledBuilt.{after, kept_list, resettled_after}
use Rattle.cu_resettled.proofs.TouchedBySome.{all_of_one, covered}

-- two hierarchies have the same lists from lower ends below this
abbrev pub AreSameBelow : HierarchyValue → HierarchyValue → ℕ → Type 0
AreSameBelow h k m = (edge : ℕ) (dir : Dir) (ends : Ends) → slice_get h.edges edge ≡ Some ends → ends.low < m → list_of h edge dir ≡ list_of k edge dir

-- and the middles of its ways there are below both ends
abbrev pub AreLowBelow : HierarchyValue → ℕ → Type 0
AreLowBelow h m = (edge : ℕ) (dir : Dir) (ends : Ends) → slice_get h.edges edge ≡ Some ends → ends.low < m
    → All (λ (entry : Entry). IsLowWay (start_of ends dir) (end_of ends dir) entry.way) (list_of h edge dir)

pub formed_low_below : (h : HierarchyValue) → IsHierarchy h → (m : ℕ) → AreLowBelow h m
formed_low_below h sound m edge dir ends at lt = λ i d inside. formed_low h (start_of ends dir) (end_of ends dir) _ (sound.formed edge dir ends at i d inside)

module _ (old : HierarchyValue) (edits : List Edit) (lists more : List (List Entry)) (low u v : ℕ) (falls : AreLowBelow (after old edits lists) low)
    (below : (m : ℕ) → m < u → m < v → m < low)
    (same : AreSameBelow (after old edits lists) (after old edits more) low) where
  list_same : (x y : ℕ) → min x y < low → list_from (after old edits lists) x y ≡ list_from (after old edits more) x y
  list_same x y lt =
      lists_from_both (after old edits lists) (after old edits more) x y (λ one two. one ≡ two) refl refl
      (λ edge dir ends at from to is. same edge dir ends at (omega (arith, is, lt)))

  agrees : (m : ℕ) → m < low → AgreesBelow (after old edits lists) (after old edits more) m
  agrees m lt = record {
    edges = refl;
    lists = λ edge dir ends at le. same edge dir ends at (omega (arith, le, lt));
    middles = λ edge dir ends at le. falls edge dir ends at (omega (arith, le, lt));
    roads = λ a t. refl;
  }

  candidate_on : (way : Way) → IsCandidateIn (after old edits lists) u v way → IsCandidateIn (after old edits more) u v way
  candidate_on (Road a) leads = leads
  candidate_on (Via m) (mu, mv, one, two) =
      let lt = below m mu mv in
      (mu, mv, (λ none. one (list_same u m (omega (arith, lt)) ∙ none)), (λ none. two (list_same m v (omega (arith, lt)) ∙ none)))

  candidate_back : (way : Way) → IsCandidateIn (after old edits more) u v way → IsCandidateIn (after old edits lists) u v way
  candidate_back (Road a) leads = leads
  candidate_back (Via m) (mu, mv, one, two) =
      let lt = below m mu mv in
      (mu, mv, (λ none. one (sym (list_same u m (omega (arith, lt))) ∙ none)), (λ none. two (sym (list_same m v (omega (arith, lt))) ∙ none)))

  value_same : (s : ℕ) (way : Way) → IsCandidateIn (after old edits lists) u v way
      → value_by (edited_all old.network edits) (rebuilt (after old edits lists)) u v s way ≡ value_by (edited_all old.network edits) (rebuilt (after old edits more)) u v s way
  value_same s (Road a) leads = refl
  value_same s (Via m) (mu, mv, one, two) =
      let h = after old edits lists in
      let k = after old edits more in
      let agree = agrees m (below m mu mv) in
      then_at-same (rebuilt h u m s) (rebuilt k u m s) (rebuilt h m v) (rebuilt k m v) (rebuilt_below h k m agree u m s (omega arith))
      (λ x. rebuilt_below h k m agree m v x (omega arith))

  -- what is resettled in one of them is so in the other
  settled_back : (entries : List Entry) → IsResettledList (after old edits more) u v entries → IsResettledList (after old edits lists) u v entries
  settled_back entries settled =
      runs_by (IsCandidateIn (after old edits more) u v) (IsCandidateIn (after old edits lists) u v) (ArrivesIn (after old edits more) u v)
      (ArrivesIn (after old edits lists) u v) entries
      candidate_back candidate_on (λ s a way lt candidate e. value_same s way candidate ∙ e)
      (λ s a way lt candidate e. sym (value_same s way candidate) ∙ e) settled

  pub settled_there : (entries : List Entry) → IsResettledList (after old edits lists) u v entries → IsResettledList (after old edits more) u v entries
  settled_there entries settled =
      runs_by (IsCandidateIn (after old edits lists) u v) (IsCandidateIn (after old edits more) u v) (ArrivesIn (after old edits lists) u v)
      (ArrivesIn (after old edits more) u v) entries
      candidate_on candidate_back (λ s a way lt candidate e. sym (value_same s way (candidate_back way candidate)) ∙ e)
      (λ s a way lt candidate e. value_same s way (candidate_back way candidate) ∙ e) settled

  pub one_settled : (list other : List Entry) → IsResettledList (after old edits lists) u v list → IsResettledList (after old edits more) u v other → list ≡ other
  one_settled list other first second =
      runs_unique (IsCandidateIn (after old edits lists) u v) (ArrivesIn (after old edits lists) u v) list other first (settled_back other second)

entries_there : (o : Option (List Entry)) → entries_or_none o ≡ unwrap_or o []
entries_there None = refl
entries_there (Some entries) = refl

-- the list with a number is that of its edge and direction
pub list_at : (lists : List (List Entry)) (k : ℕ) → get_or lists k [] ≡ entries_or_none (slice_get lists k)
list_at lists k = sym (entries_there (slice_get lists k) ∙ unwrap_or-slice_get lists k [])

module _ (old : HierarchyValue) (edits : List Edit) (lists more : List (List Entry)) (sound : IsHierarchy (after old edits lists))
    (first : IsResettledAll old edits (after old edits lists))
    (second : IsResettledAll old edits (after old edits more)) where
  same_list : (edge : ℕ) (dir : Dir) (ends : Ends) → slice_get old.edges edge ≡ Some ends → AreSameBelow (after old edits lists) (after old edits more) ends.low
      → list_of (after old edits lists) edge dir ≡ list_of (after old edits more) edge dir
  same_list edge dir ends at lower =
      elim ((covered old.network old.order edits).decided ends.low ends.high) [
        | inl touched ↦ one_settled old edits lists more ends.low (start_of ends dir) (end_of ends dir)
            (formed_low_below (after old edits lists) sound ends.low) (below_low ends dir) lower
            (list_of (after old edits lists) edge dir) (list_of (after old edits more) edge dir)
            (first.resettled edge dir ends at (ends, at, touched)) (second.resettled edge dir ends at (ends, at, touched))
        | inr off ↦ kept_list old (after old edits lists) edits first edge dir ends at off ∙ sym
            (kept_list old (after old edits more) edits second edge dir ends at off)
      ]

  same_below : (m : ℕ) → AreSameBelow (after old edits lists) (after old edits more) m
  same_below zero edge dir ends at lt = absurd (omega (arith, lt))
  same_below (suc m) edge dir ends at lt = same_list edge dir ends at (λ e d x there less. same_below m e d x there (omega (arith, less, lt)))

  pub same_lists : length lists ≡ 2 * length old.edges → lists ≡ more
  same_lists count =
      ext_get_or [] lists more (first.lists ∙ sym second.lists) (λ k lt.
      let (edge, dir, ends, number, at) = number_edge old.edges k (omega (arith, count, lt)) in
      let same : list_of (after old edits lists) edge dir ≡ list_of (after old edits more) edge dir = same_below (suc ends.low) edge dir ends at (omega arith) in
      list_at lists k ∙ subst (λ (n : ℕ). entries_or_none (slice_get lists n) ≡ entries_or_none (slice_get more n)) (sym number) same ∙ sym (list_at more k))

pub all_one : (old a b : HierarchyValue) (edits : List Edit) → IsResettledAll old edits a → IsResettledAll old edits b → IsHierarchy old → IsHierarchy a
    → IsHierarchy b → a ≡ b
all_one old a b edits first second sound one two =
    let is_a = resettled_after old a edits first in
    let is_b = resettled_after old b edits second in
    let count : length a.lists ≡ 2 * length old.edges = first.lists ∙ sound.lists in
    let same = same_lists old edits a.lists b.lists (subst IsHierarchy is_a one) (subst (IsResettledAll old edits) is_a first)
    (subst (IsResettledAll old edits) is_b second) count in
    is_a ∙ ap (after old edits) same ∙ sym is_b

-- one edit leaves one resettled hierarchy
pub resettled_one : (old a b : HierarchyValue) (edit : Edit) → IsResettled old edit a → IsResettled old edit b → IsHierarchy old → IsHierarchy a
    → IsHierarchy b → a ≡ b
resettled_one old a b edit first second = all_one old a b (edit ∷ []) (all_of_one old a edit first) (all_of_one old b edit second)
