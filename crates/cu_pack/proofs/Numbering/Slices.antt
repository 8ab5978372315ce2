-- Parts of a list, one behind the other.
use Rattle.std.proofs.Common.{◌≡◌, ◌≤◌, ◌<◌, ◌+◌, ◌-◌, ◌*◌, ◌∙◌, ℕ, zero, suc, List, [], ◌++◌, take, drop, flat_map, ap, sym, subst, arith}
use Rattle.std.specs.Prelude.{slice_range}
use Rattle.std.specs.List.{range_with_len}
use Rattle.std.proofs.Math.Seq.{take-add}
use Rattle.std.proofs.lemmas.List.{drop-drop}

module _ {X : Type 0} (xs : List X) where
  -- a part and the one behind it
  pub parts_join : (a b c : ℕ) → a ≤ b → b ≤ c → slice_range xs a b ++ slice_range xs b c ≡ slice_range xs a c
  parts_join a b c first second =
      let whole : (b - a) + (c - b) ≡ c - a = omega (arith, first, second) in
      let on : a + (b - a) ≡ b = omega (arith, first) in
      let rest : drop (b - a) (drop a xs) ≡ drop b xs = drop-drop (b - a) a xs ∙ ap (λ n. drop n xs) on in
      ap (λ ys. take (b - a) (drop a xs) ++ take (c - b) ys) (sym rest) ∙ sym (take-add (b - a) (c - b) (drop a xs)) ∙ ap (λ n. take n (drop a xs)) whole

  -- a part and what is joined from the next place on
  pub part_then : (a b c : ℕ) (first rest : List X) → a ≤ b → b ≤ c → first ≡ slice_range xs a b → rest ≡ slice_range xs b c → first ++ rest ≡ slice_range xs a c
  part_then a b c first rest one two first_is rest_is =
      ap (λ ys. ys ++ rest) first_is ∙ ap (λ ys. slice_range xs a b ++ ys) rest_is ∙ parts_join a b c one two

  pub no_part : (a b : ℕ) → a ≡ b → [] ≡ slice_range xs a b
  no_part a b same = let none : 0 ≡ b - a = omega (arith, same) in ap (λ n. take n (drop a xs)) none

  -- what is made of each number is the part from its place to the next one's
  abbrev pub ArePartsAt : (ℕ → ℕ) → (ℕ → List X) → ℕ → ℕ → Type 0
  ArePartsAt place made low high = (k : ℕ) → low ≤ k → k < high → (place k ≤ place (suc k)) × (made k ≡ slice_range xs (place k) (place (suc k)))

  -- what is made of all numbers is the part from the first place to the last
  pub parts_in_turn : (place : ℕ → ℕ) (made : ℕ → List X) (a n : ℕ) → ArePartsAt place made a (a + n)
      → (place a ≤ place (a + n)) × (flat_map made (range_with_len a n) ≡ slice_range xs (place a) (place (a + n)))
  parts_in_turn place made a zero each =
      let same : place a ≡ place (a + 0) = ap place (omega arith) in
      (omega (arith, same), no_part (place a) (place (a + 0)) same)
  parts_in_turn place made a (suc n) each =
      let here = each a (omega arith) (omega arith) in
      let rest = parts_in_turn place made (a + 1) n (λ k low high. each k (omega (arith, low)) (omega (arith, high))) in
      let next : a + 1 ≡ suc a = omega arith in
      let end : a + 1 + n ≡ a + suc n = omega arith in
      let later : place (suc a) ≤ place (a + suc n) = subst (λ m. place (suc a) ≤ place m) end (subst (λ m. place m ≤ place (a + 1 + n)) next rest.0) in
      let made_is : flat_map made (range_with_len (a + 1) n) ≡ slice_range xs (place (suc a)) (place (a + suc n)) = rest.1
      ∙ ap (λ m. slice_range xs (place m) (place (a + 1 + n))) next ∙ ap (λ m. slice_range xs (place (suc a)) (place m)) end in (
        omega (arith, here.0, later),
        part_then (place a) (place (suc a)) (place (a + suc n)) (made a) (flat_map made (range_with_len (a + 1) n)) here.0 later here.1 made_is,
      )

  -- the same where each part is as long as the others
  pub parts_of_width : (width at : ℕ) (made : ℕ → List X) (a n : ℕ)
      → ((k : ℕ) → a ≤ k → k < a + n → made k ≡ slice_range xs (at + width * k) (at + width * k + width))
      → flat_map made (range_with_len a n) ≡ slice_range xs (at + width * a) (at + width * (a + n))
  parts_of_width width at made a n each = (parts_in_turn (λ k. at + width * k) made a n (λ k low high.
      let next : at + width * k + width ≡ at + width * suc k = omega arith in
      (omega (arith, next), each k low high ∙ ap (slice_range xs (at + width * k)) next))).1
