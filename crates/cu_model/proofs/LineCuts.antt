-- A list cut at the first element that passes a test.
use Rattle.std.proofs.Common.{◌≡◌, ◌<◌, ◌+◌, ◌-◌, ◌∙◌, ℕ, Bool, List, [], ◌∷◌, Some, None, length, take, drop, sym, ap, subst, arith, inl, inr}
use Rattle.std.specs.List.{slice_split, position, position_or_len}
use Rattle.std.proofs.lemmas.Bool.{cases_lt, lt-ltb, le-ltb}
use Rattle.std.proofs.lemmas.List.{take_rest}
use Rattle.std.proofs.lemmas.List.Splits.{slice_split_first, slice_split_none}
use Rattle.std.proofs.lemmas.List.Sums.{fails_before_first}

found : {X : Type 0} (p : X → Bool) (xs : List X) (i : ℕ) → position_or_len p xs < length xs → position p xs ≡ Some i → position_or_len p xs ≡ i
found p xs i lt h = let e = rw (lt-ltb (position_or_len p xs) (length xs) lt) at h in cc e

pub slice_split_some : {X : Type 0} (p : X → Bool) (xs : List X) (d : X) (i : ℕ) → position p xs ≡ Some i
    → slice_split p xs ≡ take i xs ∷ slice_split p (take (length xs - (i + 1)) (drop (i + 1) xs))
slice_split_some p xs d i h = elim (cases_lt (position_or_len p xs) (length xs)) [
  | inl lt ↦
      let e = found p xs i lt h in
      subst (λ (j : ℕ). slice_split p xs ≡ take j xs ∷ slice_split p (take (length xs - (j + 1)) (drop (j + 1) xs))) e
      (slice_split_first p xs d lt ∙ ap (λ (t : List _). take (position_or_len p xs) xs ∷ slice_split p t) (sym (take_rest xs (position_or_len p xs + 1))))
  | inr le ↦ let e = rw (le-ltb (position_or_len p xs) (length xs) le) at h in absurd (cc e)
]

pub slice_split_whole : {X : Type 0} (p : X → Bool) (xs : List X) → position p xs ≡ None → slice_split p xs ≡ xs ∷ []
slice_split_whole p xs h = elim (cases_lt (position_or_len p xs) (length xs)) [
  | inl lt ↦ let e = rw (lt-ltb (position_or_len p xs) (length xs) lt) at h in absurd (cc e)
  | inr le ↦ slice_split_none p xs (λ k d lt. fails_before_first p xs k d (omega (arith, lt, le)))
]
