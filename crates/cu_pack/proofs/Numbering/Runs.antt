-- Lists that are told by where each starts: their starts, and how much is in all.
use Rattle.std.proofs.Common.{◌≡◌, ◌≤◌, ◌<◌, ◌+◌, ◌-◌, ◌∙◌, ℕ, zero, suc, List, [], ◌∷◌, length, map, ap, arith}
use Rattle.std.specs.List.{range_with_len}
use Rattle.std.proofs.lemmas.List.Sums.{sum_by-cons}
use Rattle.cu_pack.specs.Spelling.{starts_from, total}

module _ {T : Type 0} (start : ℕ → ℕ) (list : ℕ → List T) where
  -- each list leads from its start to the next one
  abbrev pub LeadOn : ℕ → ℕ → Type 0
  LeadOn low high = (k : ℕ) → low ≤ k → k < high → (start k ≤ start (suc k)) × (length (list k) ≡ start (suc k) - start k)

  lead_later : (a n : ℕ) → LeadOn a (a + suc n) → LeadOn (a + 1) (a + 1 + n)
  lead_later a n f k low high = f k (omega (arith, low)) (omega (arith, high))

  -- the running sums of the lengths are the starts
  pub starts_again : (a n from : ℕ) → LeadOn a (a + n) → from ≡ start a → starts_from from (map list (range_with_len a n)) ≡ map start (range_with_len a (suc n))
  unfolding starts_from
  starts_again a zero from f same = ap (λ m. m ∷ []) same
  starts_again a (suc n) from f same =
      let here = f a (omega arith) (omega arith) in
      let next : suc a ≡ a + 1 = omega arith in
      let one : start (suc a) ≡ start (a + 1) = ap start next in
      let on : from + length (list a) ≡ start (a + 1) = omega (arith, same, here.0, here.1, one) in
      ap (λ m. m ∷ starts_from (from + length (list a)) (map list (range_with_len (a + 1) n))) same
      ∙ ap (λ ms. start a ∷ ms) (starts_again (a + 1) n (from + length (list a)) (lead_later a n f) on)

  -- all lists together lead from the first start to the last
  pub total_again : (a n : ℕ) → LeadOn a (a + n) → total (map list (range_with_len a n)) + start a ≡ start (a + n)
  total_again a zero f = let end : start a ≡ start (a + 0) = ap start (omega arith) in omega (arith, end)
  total_again a (suc n) f =
      let here = f a (omega arith) (omega arith) in
      let rest = total_again (a + 1) n (lead_later a n f) in
      let next : suc a ≡ a + 1 = omega arith in
      let one : start (suc a) ≡ start (a + 1) = ap start next in
      let end : a + 1 + n ≡ a + suc n = omega arith in
      let last : start (a + 1 + n) ≡ start (a + suc n) = ap start end in
      let step : total (map list (range_with_len a (suc n))) ≡ length (list a) + total (map list (range_with_len (a + 1) n)) = sum_by-cons length (list a) (map list (range_with_len (a + 1) n)) in
      omega (arith, here.0, here.1, rest, one, last, step)
