-- Lists that are known by their items.
use Rattle.std.proofs.Common.{◌≡◌, ◌≤◌, ◌<◌, ◌+◌, ◌-◌, ◌∙◌, ℕ, zero, suc, List, [], ◌∷◌, Some, length, take, map, refl, ap, arith, inl, inr}
use Rattle.std.specs.Prelude.{slice_get}
use Rattle.std.specs.List.{range_with_len}
use Rattle.std.proofs.lemmas.List.FromFn.{get_or-map-range_with_len, length-map-range_with_len}
use Rattle.std.proofs.lemmas.List.Sums.{sum_by-take-le}
use Rattle.std.proofs.lemmas.Option.{slice_get-get_or, slice_get_cases, slice_get_within}
use Rattle.cu_pack.specs.Spelling.{total}
use Rattle.cu_pack.proofs.Spelled.Respelled.{read_by}
use Rattle.cu_pack.proofs.Numbering.Totals.{total_more}

-- the i-th of what is counted up
pub counted_there : {X : Type 0} (g : ℕ → X) (n i : ℕ) → i < n → slice_get (map g (range_with_len 0 n)) i ≡ Some (g i)
counted_there g n i inside =
    let long = length-map-range_with_len g 0 n in
    slice_get-get_or (map g (range_with_len 0 n)) i (g i) (omega (arith, long, inside)) ∙ ap Some (get_or-map-range_with_len g 0 n i i (g i) inside (omega arith))

-- what is made of the numbers from one on is a list whose items are made of them
pub made_from : {X : Type 0} (made : ℕ → X) (a n : ℕ) (xs : List X) → length xs ≡ n → ((i : ℕ) (x : X) → slice_get xs i ≡ Some x → made (a + i) ≡ x) → map made (range_with_len a n) ≡ xs
made_from made a zero [] long each = refl
made_from made a (suc n) [] long each = absurd (omega (arith, long))
made_from made a zero (x ∷ xs) long each = absurd (omega (arith, long))
made_from {X} made a (suc n) (x ∷ xs) long each =
    let first : a ≡ a + 0 = omega arith in
    let rest = made_from made (a + 1) n xs (omega (arith, long)) (λ i y there. let next : a + 1 + i ≡ a + suc i = omega arith in ap made next ∙ each (suc i) y there) in
    ap (λ (y : X). y ∷ map made (range_with_len (a + 1) n)) (ap made first ∙ each 0 x refl) ∙ ap (λ (ys : List X). x ∷ ys) rest

pub made_again : {X : Type 0} (made : ℕ → X) (n : ℕ) (xs : List X) → length xs ≡ n → ((i : ℕ) (x : X) → slice_get xs i ≡ Some x → made i ≡ x) → map made (range_with_len 0 n) ≡ xs
made_again made n xs long each = made_from made 0 n xs long (λ i x there. let same : 0 + i ≡ i = omega arith in ap made same ∙ each i x there)

-- lists one behind the other, told by where each starts
module _ {T : Type 0} (start : ℕ → ℕ) (lists : List (List T)) (starts : (i : ℕ) → i ≤ length lists → start i ≡ total (take i lists)) where
  module _ (i : ℕ) (list : List T) (there : slice_get lists i ≡ Some list) where
    -- a list leads from its start to the next one
    pub lead_on : start (suc i) ≡ start i + length list
    lead_on =
        let inside = slice_get_within lists i list there in
        let here = starts i (omega (arith, inside)) in
        let next = starts (suc i) (omega (arith, inside)) in
        let more = total_more lists i list there in
        let after : i + 1 ≡ suc i = omega arith in
        let same : total (take (i + 1) lists) ≡ total (take (suc i) lists) = ap (λ (n : ℕ). total (take n lists)) after in
        omega (arith, here, next, more, same)

    -- it ends within all of them
    pub lead_within : start (suc i) ≤ total lists
    lead_within =
        let inside = slice_get_within lists i list there in
        let next = starts (suc i) (omega (arith, inside)) in
        let within = sum_by-take-le length lists (suc i) in
        omega (arith, next, within)

    -- each number from its start to the next one is that of an item
    pub item_at : (place : ℕ) → start i ≤ place → place < start (suc i) → (j : ℕ) × (x : T) × (slice_get list j ≡ Some x) × (total (take i lists) + j ≡ place)
    item_at place low high =
        let inside = slice_get_within lists i list there in
        let here = starts i (omega (arith, inside)) in
        let on = lead_on in
        let j = place - start i in
        elim ((slice_get_cases list j).1) [
          | inl found ↦ (j, found.0, found.2, omega (arith, here, low))
          | inr past ↦ let none = past.0 in absurd (omega (arith, none, on, low, high))
        ]

    -- it is what is read from its start to the next one
    pub list_made : (read : ℕ → T) → ((j : ℕ) (x : T) → slice_get list j ≡ Some x → read (total (take i lists) + j) ≡ x) → read_by read start i ≡ list
    list_made read each =
        let inside = slice_get_within lists i list there in
        let here = starts i (omega (arith, inside)) in
        let on = lead_on in
        made_from read (start i) (start (suc i) - start i) list (omega (arith, on)) (λ j x item. ap (λ (n : ℕ). read (n + j)) here ∙ each j x item)
