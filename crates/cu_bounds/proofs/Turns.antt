-- Lists in turn: those of an edge come before those of the next.
use Rattle.std.proofs.Common.{◌≡◌, ◌<◌, ◌+◌, ◌*◌, ◌++◌, ◌∙◌, ℕ, zero, suc, List, [], ◌∷◌, ap, arith, get_or, inl, inr, length, refl, subst}
use Rattle.std.specs.Prelude.{flat_map, slice_index}
use Rattle.std.specs.List.{range_with_len}
use Rattle.std.proofs.lemmas.Bool.{cases_lt}
use Rattle.std.proofs.lemmas.List.{get_or_append_left, get_or_at, length-append}
use Rattle.cu_interval.specs.declared.shortcuts.Shortcut.{Shortcut}
use Rattle.cu_interval.specs.declared.ways.Dir.{Dir}
use Rattle.cu_interval.specs.declared.ways.Dir.TheVariants.{Up, Down}
use Rattle.cu_interval.specs.Hierarchies.{HierarchyValue, list_number}
use Rattle.cu_interval.specs.LeastBounds.{least_bound}
use Rattle.cu_interval.specs.Shortcuts.{number_of}
use Rattle.cu_interval.proofs.EndsLaws.{number_parts}
use Rattle.cu_bounds.specs.KeptBounds.{AreRightBelow, bounds_of}
use Rattle.cu_bounds.specs.Steps.InTurn.{AreFirstBounds}

-- one more list that is right
pub right_more : (h : HierarchyValue) (kept : ℕ → ℕ) (edge : ℕ) (dir : Dir) → AreRightBelow h kept (list_number edge dir)
    → kept (list_number edge dir) ≡ least_bound h edge dir → AreRightBelow h kept (list_number edge dir + 1)
right_more h kept edge dir right is e d inside lt =
    elim (cases_lt (list_number e d) (list_number edge dir)) [
      | inl before ↦ right e d inside before
      | inr here ↦
          let number : list_number edge dir ≡ list_number e d = omega (arith, lt, here) in
          let same = number_parts edge e dir d number in
          subst (λ (k : ℕ). kept (list_number k d) ≡ least_bound h k d) same.0
          (subst (λ (k : Dir). kept (list_number edge k) ≡ least_bound h edge k) same.1 is)
    ]

-- one more bound
pub first_more : (h : HierarchyValue) (old new : List ℕ) (shortcut : Shortcut) (bound : ℕ) → AreFirstBounds h old (number_of shortcut)
    → bound ≡ least_bound h shortcut.edge shortcut.dir → new ≡ old ++ (bound ∷ []) → AreFirstBounds h new (number_of shortcut + 1)
first_more h old new shortcut bound first is more =
    let count = first.long in
    let right = first.right in
    let longer = ap length more ∙ length-append old (bound ∷ []) in
    let kept : AreRightBelow h (slice_index new) (number_of shortcut) =
    λ e d inside lt. ap (λ (xs : List ℕ). slice_index xs (list_number e d)) more
    ∙ get_or_append_left old (bound ∷ []) 0 (list_number e d) (omega (arith, lt, count)) ∙ right e d inside lt in
    let last : slice_index new (number_of shortcut) ≡ least_bound h shortcut.edge shortcut.dir =
    ap (λ (xs : List ℕ). slice_index xs (number_of shortcut)) more ∙ get_or_at old bound [] 0 (number_of shortcut) count ∙ is in
    record { long = omega (arith, longer, count); right = right_more h (slice_index new) shortcut.edge shortcut.dir kept last }

-- a list with two elements for each number
pairs_from : (f g : ℕ → ℕ) (xs : List ℕ) (a n : ℕ) → length xs ≡ 2 * n
    → ((k : ℕ) → k < n → (get_or xs (2 * k) 0 ≡ f (a + k)) × (get_or xs (2 * k + 1) 0 ≡ g (a + k)))
    → xs ≡ flat_map (λ e. f e ∷ g e ∷ []) (range_with_len a n)
pairs_from f g [] a zero long each = refl
pairs_from f g (x ∷ xs) a zero long each = absurd (omega (arith, long))
pairs_from f g [] a (suc n) long each = absurd (omega (arith, long))
pairs_from f g (x ∷ []) a (suc n) long each = absurd (omega (arith, long))
pairs_from f g (x ∷ y ∷ xs) a (suc n) long each =
    let first = each 0 (omega arith) in
    let start : a + 0 ≡ a = omega arith in
    let one : x ≡ f a = first.0 ∙ ap f start in
    let two : y ≡ g a = first.1 ∙ ap g start in
    let rest = pairs_from f g xs (a + 1) n (omega (arith, long)) (λ k lt.
    let next = each (suc k) (omega (arith, lt)) in
    let even : 2 * suc k ≡ suc (suc (2 * k)) = omega arith in
    let odd : 2 * suc k + 1 ≡ suc (suc (2 * k + 1)) = omega arith in
    let sum : a + suc k ≡ a + 1 + k = omega arith in (
      subst (λ (i : ℕ). get_or (x ∷ y ∷ xs) i 0 ≡ f (a + 1 + k)) even (next.0 ∙ ap f sum),
      subst (λ (i : ℕ). get_or (x ∷ y ∷ xs) i 0 ≡ g (a + 1 + k)) odd (next.1 ∙ ap g sum),
    )) in
    cc (one, two, rest)

-- the least bounds of all lists
pub first_all : (h : HierarchyValue) (bounds : List ℕ) (count : ℕ) → count ≡ 2 * length h.edges → AreFirstBounds h bounds count → bounds ≡ bounds_of h
first_all h bounds count all first =
    let long = first.long in
    pairs_from (λ e. least_bound h e Up) (λ e. least_bound h e Down) bounds 0 (length h.edges) (omega (arith, long, all)) (λ k lt.
    let sum : k ≡ 0 + k = omega arith in (
      first.right k Up lt (omega (arith, all, lt)) ∙ ap (λ e. least_bound h e Up) sum,
      first.right k Down lt (omega (arith, all, lt)) ∙ ap (λ e. least_bound h e Down) sum,
    ))
