-- Lists in turn: one more is counted.
use Rattle.std.proofs.Common.{◌≡◌, ◌≤◌, ◌<◌, ◌+◌, ◌*◌, ◌++◌, ◌∙◌, ℕ, Bool, true, false, List, [], ◌∷◌, Some, ap, arith, inl, inr, length, ltb, refl, subst, sym}
use Rattle.std.specs.Prelude.{◌↔◌, IsTrue, slice_get, slice_index}
use Rattle.std.proofs.lemmas.Bool.{cases_lt}
use Rattle.std.proofs.lemmas.List.{get_or_append_left, get_or_at, length-append}
use Rattle.std.proofs.lemmas.Option.{slice_get_within}
use Rattle.cu_model.proofs.OptionLaws.{same_value}
use Rattle.cu_chordal.specs.declared.graph.Ends.{Ends}
use Rattle.cu_interval.specs.declared.shortcuts.Shortcut.{Shortcut}
use Rattle.cu_interval.specs.declared.ways.Dir.{Dir}
use Rattle.cu_interval.specs.Hierarchies.{HierarchyValue, IsHierarchy, end_of, list_number, start_of}
use Rattle.cu_interval.specs.Shortcuts.{number_of}
use Rattle.cu_interval.proofs.EndsLaws.{number_parts, number_within}
use Rattle.cu_short.specs.Counts.{AreRoadCounts, IsCounted}
use Rattle.cu_short.specs.Shortness.{IsShort, NeverLong, most_roads}
use Rattle.cu_short.specs.Steps.Counted.{AreCountedBelow, AreFirstCounts, CountsAll, CountsOn}
use Rattle.cu_short.proofs.WalkRoads.{short_never_long}

-- one more list is counted
pub counted_more : (h : HierarchyValue) (counts : ℕ → ℕ) (shortcut : Shortcut) (ends : Ends) → slice_get h.edges shortcut.edge ≡ Some ends
    → AreCountedBelow h counts (number_of shortcut) → IsCounted h (counts (number_of shortcut)) shortcut.dir ends → AreCountedBelow h counts (number_of shortcut + 1)
counted_more h counts shortcut ends at below own e d low there lt =
    elim (cases_lt (list_number e d) (number_of shortcut)) [
      | inl before ↦ below e d low there before
      | inr here ↦
          let number : number_of shortcut ≡ list_number e d = omega (arith, lt, here) in
          let same = number_parts shortcut.edge e shortcut.dir d number in
          let at_e : slice_get h.edges e ≡ Some ends = subst (λ (k : ℕ). slice_get h.edges k ≡ Some ends) same.0 at in
          let whose : ends ≡ low = same_value (slice_get h.edges e) ends low at_e there in
          subst (λ (n : ℕ). IsCounted h (counts n) d low) number
          (subst (λ (k : Dir). IsCounted h (counts (number_of shortcut)) k low) same.1
          (subst (λ (b : Ends). IsCounted h (counts (number_of shortcut)) shortcut.dir b) whose own))
    ]

-- a list whose roads are not few
pub not_short : (h : HierarchyValue) (shortcut : Shortcut) (most : ℕ) (ends : Ends) → slice_get h.edges shortcut.edge ≡ Some ends
    → most ≡ most_roads h (start_of ends shortcut.dir) (end_of ends shortcut.dir) → h.network.nodes ≤ most → IsShort h → ⊥
not_short h shortcut most ends at is many short =
    let few = short shortcut.edge shortcut.dir ends at in
    absurd (omega (arith, many, is, few))

-- what is so of few roads, or else of many, as it is told
pub as_told : (Told : Bool → Type 0) (most nodes : ℕ) → (most < nodes → Told true) → (nodes ≤ most → Told false) → Told (ltb most nodes)
as_told Told most nodes few many =
    elim (cases_lt most nodes) [
      | inl less ↦
          let is_few : ltb most nodes ≡ true = grind (arith, less) in
          subst Told (sym is_few) (few less)
      | inr more ↦
          let is_many : ltb most nodes ≡ false = grind (arith, more) in
          subst Told (sym is_many) (many (omega (arith, more)))
    ]

module _ (h : HierarchyValue) (old new : List ℕ) (shortcut : Shortcut) (most : ℕ) (ends : Ends) (at : slice_get h.edges shortcut.edge ≡ Some ends)
    (is : most ≡ most_roads h (start_of ends shortcut.dir) (end_of ends shortcut.dir)) where
  -- one more list whose roads are few
  counts_more : AreFirstCounts h old (number_of shortcut) → new ≡ old ++ (most ∷ []) → most < h.network.nodes → AreFirstCounts h new (number_of shortcut + 1)
  counts_more first more few =
      let count = first.long in
      let longer = ap length more ∙ length-append old (most ∷ []) in
      let last : slice_index new (number_of shortcut) ≡ most =
      ap (λ (xs : List ℕ). slice_index xs (number_of shortcut)) more ∙ get_or_at old most [] 0 (number_of shortcut) count in
      let own : IsCounted h (slice_index new (number_of shortcut)) shortcut.dir ends = (last ∙ is, omega (arith, last, few)) in
      let before : AreCountedBelow h (slice_index new) (number_of shortcut) = λ e d low there lt.
      (let kept : slice_index new (list_number e d) ≡ slice_index old (list_number e d) =
      ap (λ (xs : List ℕ). slice_index xs (list_number e d)) more ∙ get_or_append_left old (most ∷ []) 0 (list_number e d) (omega (arith, lt, count)) in
      subst (λ (n : ℕ). IsCounted h n d low) (sym kept) (first.right e d low there lt)) in
      record { long = omega (arith, longer, count); right = counted_more h (slice_index new) shortcut ends at before own }

  -- as it is told
  pub counts_on : (nodes : ℕ) → nodes ≡ h.network.nodes → AreFirstCounts h old (number_of shortcut) → new ≡ old ++ (most ∷ [])
      → CountsOn h new (number_of shortcut + 1) (ltb most nodes)
  counts_on nodes same first more =
      as_told (CountsOn h new (number_of shortcut + 1)) most nodes
      (λ few. counts_more first more (omega (arith, few, same)))
      (λ many. not_short h shortcut most ends at is (omega (arith, many, same)))

-- the first lists that are counted are all
pub first_all : (h : HierarchyValue) (counts : List ℕ) (count : ℕ) → count ≡ 2 * length h.edges → AreFirstCounts h counts count → AreRoadCounts h counts
first_all h counts count all first =
    let long = first.long in record {
      long = omega (arith, long, all);
      right = λ edge dir ends at.
          let within = number_within edge (length h.edges) dir (slice_get_within h.edges edge ends at) in
          first.right edge dir ends at (omega (arith, within, all));
    }

-- where the roads of all lists are few, all lists are short
pub counted_short : (h : HierarchyValue) (counts : List ℕ) → AreRoadCounts h counts → IsShort h
counted_short h counts counted edge dir ends at = let (is, few) = counted.right edge dir ends at in omega (arith, is, few)

-- and no walk is too long
pub counted_never_long : (h : HierarchyValue) → IsHierarchy h → (counts : List ℕ) → AreRoadCounts h counts → NeverLong h
counted_never_long h sound counts counted = short_never_long h sound (counted_short h counts counted)

-- as it is told of all lists
pub told_counts : (h : HierarchyValue) (counts : List ℕ) (few : Bool) → CountsAll h counts few → IsTrue few → AreRoadCounts h counts
told_counts h counts true told few = told
told_counts h counts false told few = absurd (cc few)

pub told_short : (h : HierarchyValue) (counts : List ℕ) (few : Bool) → CountsAll h counts few → IsTrue few ↔ IsShort h
told_short h counts true told = (λ yes. counted_short h counts told, λ short. refl)
told_short h counts false told = (λ yes. absurd (cc yes), λ short. absurd (told short))
