-- Counts that are found anew edge by edge, by rising edge.
use Rattle.std.proofs.Common.{◌≡◌, ◌≢◌, ◌≤◌, ◌<◌, ◌+◌, ◌*◌, ◌∙◌, ℕ, Bool, true, false, List, Some, ap, arith, inl, inr, length, ltb, map, subst, sym}
use Rattle.std.specs.Prelude.{slice_get, slice_index, slice_set}
use Rattle.std.proofs.lemmas.Bool.{cases_eq}
use Rattle.std.proofs.lemmas.List.{get_or-set_other, get_or-set_same, length-set}
use Rattle.std.proofs.lemmas.Option.{slice_get_within}
use Rattle.cu_model.proofs.OptionLaws.{same_value}
use Rattle.cu_bounds.proofs.Renewed.{AreRising, IsNoneFrom, lower_edge, none_among, none_below, none_left, none_more, numbers_apart}
use Rattle.cu_chordal.specs.declared.graph.Ends.{Ends}
use Rattle.cu_interval.specs.declared.shortcuts.Shortcut.{Shortcut}
use Rattle.cu_interval.specs.declared.ways.Dir.{Dir}
use Rattle.cu_interval.specs.declared.ways.Dir.TheVariants.{Up, Down}
use Rattle.cu_interval.specs.declared.ways.TouchedEdge.{TouchedEdge}
use Rattle.cu_interval.specs.Hierarchies.{HierarchyValue, end_of, list_number, start_of}
use Rattle.cu_interval.specs.Shortcuts.{number_of}
use Rattle.cu_interval.proofs.EndsLaws.{number_within}
use Rattle.cu_short.specs.Counts.{AreRoadCounts, AreRoadCountsBut, IsCounted}
use Rattle.cu_short.specs.Shortness.{most_roads}
use Rattle.cu_short.specs.Steps.Counted.{AreCountedBelow}
use Rattle.cu_short.specs.Steps.Recounted.{AreBothRecounted, IsRecounted, RecountsEdge, RecountsList}
use Rattle.cu_short.proofs.Turns.{as_told, counted_more, not_short}

-- all lists are counted but for those of these edges from one on
pub record AreRecounted (h : HierarchyValue) (touched : List TouchedEdge) (i : ℕ) (counts : List ℕ) : Type 0 where
  pub long : length counts ≡ 2 * length h.edges
  pub right : (edge : ℕ) (dir : Dir) (ends : Ends) → slice_get h.edges edge ≡ Some ends → IsNoneFrom touched i edge
      → IsCounted h (slice_index counts (list_number edge dir)) dir ends

pub recounted_none : (h : HierarchyValue) (touched : List TouchedEdge) (counts : List ℕ) → AreRoadCountsBut h counts (map (λ (t : TouchedEdge). t.edge) touched)
    → AreRecounted h touched 0 counts
recounted_none h touched counts kept = record {
  long = kept.long;
  right = λ edge dir ends at none. kept.right edge dir ends at (none_among touched edge none);
}

-- so all lists before those of the next edge are counted
pub counted_before : (h : HierarchyValue) (touched : List TouchedEdge) → AreRising touched → (i : ℕ) (t : TouchedEdge) → slice_get touched i ≡ Some t
    → (counts : List ℕ) → AreRecounted h touched i counts → AreCountedBelow h (slice_index counts) (2 * t.edge)
counted_before h touched rising i t at counts recounted e d ends there lt =
    recounted.right e d ends there (none_below touched rising i t at e (lower_edge e t.edge d lt))

-- a list is counted anew, as it is told
pub recounts : (h : HierarchyValue) (old new : List ℕ) (shortcut : Shortcut) (most nodes : ℕ) (ends : Ends) → slice_get h.edges shortcut.edge ≡ Some ends
    → most ≡ most_roads h (start_of ends shortcut.dir) (end_of ends shortcut.dir) → nodes ≡ h.network.nodes → new ≡ slice_set old (number_of shortcut) most
    → RecountsList h old new shortcut (ltb most nodes)
recounts h old new shortcut most nodes ends at is same set =
    as_told (RecountsList h old new shortcut) most nodes
    (λ few. record {
      most = most;
      set = set;
      counted = λ own there.
          let whose : ends ≡ own = same_value (slice_get h.edges shortcut.edge) ends own at there in
          subst (IsCounted h most shortcut.dir) whose (is, omega (arith, few, same));
    })
    (λ many. not_short h shortcut most ends at is (omega (arith, many, same)))

module _ (h : HierarchyValue) (old new : List ℕ) (shortcut : Shortcut) (inside : shortcut.edge < length h.edges) (long : length old ≡ 2 * length h.edges)
    (recounted : IsRecounted h old new shortcut) where
  recounted_long : length new ≡ 2 * length h.edges
  recounted_long = ap length recounted.set ∙ length-set old (number_of shortcut) recounted.most ∙ long

  recounted_other : (number : ℕ) → number ≢ number_of shortcut → slice_index new number ≡ slice_index old number
  recounted_other number apart =
      ap (λ (xs : List ℕ). slice_index xs number) recounted.set ∙ get_or-set_other old (number_of shortcut) number recounted.most 0 apart

  recounted_here : slice_index new (number_of shortcut) ≡ recounted.most
  recounted_here =
      let within = number_within shortcut.edge (length h.edges) shortcut.dir inside in
      ap (λ (xs : List ℕ). slice_index xs (number_of shortcut)) recounted.set
      ∙ get_or-set_same old (number_of shortcut) recounted.most 0 (omega (arith, within, long))

  -- as it stands in the new counts
  counted_here : (ends : Ends) → slice_get h.edges shortcut.edge ≡ Some ends → IsCounted h (slice_index new (number_of shortcut)) shortcut.dir ends
  counted_here ends at = subst (λ (n : ℕ). IsCounted h n shortcut.dir ends) (sym recounted_here) (recounted.counted ends at)

-- one more list is counted, in its place
pub recounted_on : (h : HierarchyValue) (old new : List ℕ) (shortcut : Shortcut) (ends : Ends) → slice_get h.edges shortcut.edge ≡ Some ends
    → length old ≡ 2 * length h.edges → IsRecounted h old new shortcut → AreCountedBelow h (slice_index old) (number_of shortcut)
    → (length new ≡ 2 * length h.edges) × AreCountedBelow h (slice_index new) (number_of shortcut + 1)
recounted_on h old new shortcut ends at long recounted below =
    let inside = slice_get_within h.edges shortcut.edge ends at in
    let before : AreCountedBelow h (slice_index new) (number_of shortcut) = λ e d low there lt.
    subst (λ (n : ℕ). IsCounted h n d low) (sym (recounted_other h old new shortcut inside long recounted (list_number e d) (λ same. omega (arith, lt, same))))
    (below e d low there lt) in (
      recounted_long h old new shortcut inside long recounted,
      counted_more h (slice_index new) shortcut ends at before (counted_here h old new shortcut inside long recounted ends at),
    )

-- the second list of an edge is counted anew behind the first, as it is told
pub recounts_both : (h : HierarchyValue) (old middle new : List ℕ) (edge : ℕ) (few : Bool) → IsRecounted h old middle (record { edge = edge; dir = Up })
    → RecountsList h middle new (record { edge = edge; dir = Down }) few → RecountsEdge h old new edge few
recounts_both h old middle new edge true up down = record { middle = middle; up = up; down = down }
recounts_both h old middle new edge false up many = many

-- both lists of an edge, and no other
module _ (h : HierarchyValue) (old new : List ℕ) (edge : ℕ) (inside : edge < length h.edges) (long : length old ≡ 2 * length h.edges)
    (both : AreBothRecounted h old new edge) where
  abbrev up : Shortcut
  up = record { edge = edge; dir = Up }

  abbrev down : Shortcut
  down = record { edge = edge; dir = Down }

  middle_long : length both.middle ≡ 2 * length h.edges
  middle_long = recounted_long h old both.middle up inside long both.up

  both_long : length new ≡ 2 * length h.edges
  both_long = recounted_long h both.middle new down inside middle_long both.down

  both_other : (e : ℕ) (d : Dir) → e ≢ edge → slice_index new (list_number e d) ≡ slice_index old (list_number e d)
  both_other e d apart =
      recounted_other h both.middle new down inside middle_long both.down (list_number e d) (numbers_apart e edge d Down apart)
      ∙ recounted_other h old both.middle up inside long both.up (list_number e d) (numbers_apart e edge d Up apart)

  both_here : (d : Dir) (ends : Ends) → slice_get h.edges edge ≡ Some ends → IsCounted h (slice_index new (list_number edge d)) d ends
  both_here Up ends at =
      let kept = recounted_other h both.middle new down inside middle_long both.down (2 * edge) (λ same. omega (arith, same)) in
      subst (λ (n : ℕ). IsCounted h n Up ends) (sym kept) (counted_here h old both.middle up inside long both.up ends at)
  both_here Down ends at = counted_here h both.middle new down inside middle_long both.down ends at

-- one more edge
pub recounted_more : (h : HierarchyValue) (touched : List TouchedEdge) (i : ℕ) (t : TouchedEdge) (old new : List ℕ) → slice_get touched i ≡ Some t
    → t.edge < length h.edges → AreBothRecounted h old new t.edge → AreRecounted h touched i old → AreRecounted h touched (i + 1) new
recounted_more h touched i t old new at inside both recounted =
    let long = recounted.long in record {
      long = both_long h old new t.edge inside long both;
      right = λ edge dir ends there none. elim (cases_eq edge t.edge) [
        | inl same ↦
            let here : slice_get h.edges t.edge ≡ Some ends = subst (λ (e : ℕ). slice_get h.edges e ≡ Some ends) same there in
            subst (λ (e : ℕ). IsCounted h (slice_index new (list_number e dir)) dir ends) (sym same) (both_here h old new t.edge inside long both dir ends here)
        | inr apart ↦
            subst (λ (n : ℕ). IsCounted h n dir ends) (sym (both_other h old new t.edge inside long both edge dir apart))
            (recounted.right edge dir ends there (none_more touched i t at edge apart none))
      ];
    }

-- all of them
pub recounted_all : (h : HierarchyValue) (touched : List TouchedEdge) (i : ℕ) (counts : List ℕ) → length touched ≤ i → AreRecounted h touched i counts
    → AreRoadCounts h counts
recounted_all h touched i counts all recounted = record {
  long = recounted.long;
  right = λ edge dir ends at. recounted.right edge dir ends at (none_left touched i edge all);
}
