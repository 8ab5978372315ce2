-- What lies before and behind a place of a rising list.
use Rattle.std.proofs.Common.{◌<◌, ℕ, zero, suc, List, [], ◌∷◌, subst, arith, inl, inr, length, get_or, drop, take}
use Rattle.std.specs.List.{AllPairs, Contains}
use Rattle.cu_chordal.proofs.Members.{member_cases, none_in_nil, pairs_head, pairs_tail}

pub before_place : (xs : List ℕ) (k y : ℕ) → AllPairs (λ a b. a < b) xs → k < length xs → Contains (take k xs) y → y < get_or xs k 0
before_place [] k y f lt c = absurd (omega (arith, lt))
before_place (x ∷ xs) zero y f lt c = absurd (none_in_nil y c)
before_place (x ∷ xs) (suc k) y f lt c = elim (member_cases x (take k xs) y c) [
  | inl same ↦ let first = pairs_head (λ a b. a < b) x xs f k 0 (omega (arith, lt)) in omega (arith, same, first)
  | inr rest ↦ before_place xs k y (pairs_tail (λ a b. a < b) x xs f) (omega (arith, lt)) rest
]

after_first : (x : ℕ) (xs : List ℕ) (y : ℕ) → AllPairs (λ a b. a < b) (x ∷ xs) → Contains xs y → x < y
after_first x xs y f c = subst (λ z. x < z) c.2 (pairs_head (λ a b. a < b) x xs f c.0 y c.1)

pub behind_place : (xs : List ℕ) (k y : ℕ) → AllPairs (λ a b. a < b) xs → k < length xs → Contains (drop (suc k) xs) y → get_or xs k 0 < y
behind_place [] k y f lt c = absurd (omega (arith, lt))
behind_place (x ∷ xs) zero y f lt c = after_first x xs y f c
behind_place (x ∷ xs) (suc k) y f lt c = behind_place xs k y (pairs_tail (λ a b. a < b) x xs f) (omega (arith, lt)) c
