-- Numbers that were read from bytes are written as these bytes again.
use Rattle.std.proofs.Common.{◌≡◌, ◌≤◌, ◌<◌, ◌+◌, ◌-◌, ◌∙◌, ℕ, List, ◌++◌, length, get_or, take, drop, refl, ap, arith, inl, inr}
use Rattle.std.specs.Prelude.{slice_index, slice_range}
use Rattle.std.proofs.lemmas.Bool.{cases_lt}
use Rattle.std.proofs.lemmas.List.{get_or-drop, get_or_past, get_or-take, length-drop, length-take, length-take-le}
use Rattle.std.proofs.lemmas.Nat.{le_bytes_4, le_bytes_8}
use Rattle.cu_pack.specs.Places.{long_at, short_at}
use Rattle.cu_pack.specs.Spelling.{long, triple, short}
use Rattle.cu_pack.proofs.Numbering.Slices.{part_then}

-- numbers below 256
abbrev pub AreBytes : List ℕ → Type 0
AreBytes bytes = (k : ℕ) → slice_index bytes k < 256

module _ (bytes : List ℕ) (small : AreBytes bytes) where
  -- a part of bytes is bytes, and so many
  part_small : (at count : ℕ) → AreBytes (take count (drop at bytes))
  part_small at count k =
      elim (cases_lt k count) [
        | inl inside ↦
            let same : get_or (take count (drop at bytes)) k 0 ≡ get_or bytes (at + k) 0 = get_or-take count (drop at bytes) k 0 inside ∙ get_or-drop at bytes k 0 in
            let byte = small (at + k) in
            omega (arith, same, byte)
        | inr past ↦
            let long = length-take count (drop at bytes) in
            let none : get_or (take count (drop at bytes)) k 0 ≡ 0 = get_or_past (take count (drop at bytes)) k 0 (omega (arith, long, past)) in
            omega (arith, none)
      ]

  part_length : (at count : ℕ) → at + count ≤ length bytes → length (take count (drop at bytes)) ≡ count
  part_length at count inside = let rest = length-drop at bytes in length-take-le count (drop at bytes) (omega (arith, rest, inside))

  -- a number that was read in four bytes, in eight, and three in twelve
  pub short_again : (at : ℕ) → at + 4 ≤ length bytes → short (short_at bytes at) ≡ slice_range bytes at (at + 4)
  unfolding short_at
  short_again at inside =
      let four : 4 ≡ at + 4 - at = omega arith in
      le_bytes_4 (take 4 (drop at bytes)) (short_at bytes at) (part_length at 4 inside) (part_small at 4) refl ∙ ap (λ n. take n (drop at bytes)) four

  pub long_again : (at : ℕ) → at + 8 ≤ length bytes → long (long_at bytes at) ≡ slice_range bytes at (at + 8)
  unfolding long_at
  long_again at inside =
      let eight : 8 ≡ at + 8 - at = omega arith in
      le_bytes_8 (take 8 (drop at bytes)) (long_at bytes at) (part_length at 8 inside) (part_small at 8) refl ∙ ap (λ n. take n (drop at bytes)) eight

  pub triple_again : (at : ℕ) → at + 12 ≤ length bytes → triple (short_at bytes at) (short_at bytes (at + 4)) (short_at bytes (at + 8)) ≡ slice_range bytes at (at + 12)
  triple_again at inside =
      let first : ℕ = short_at bytes at in
      let second : ℕ = short_at bytes (at + 4) in
      let third : ℕ = short_at bytes (at + 8) in
      let next : at + 4 + 4 ≡ at + 8 = omega arith in
      let end : at + 8 + 4 ≡ at + 12 = omega arith in
      let one = short_again at (omega (arith, inside)) in
      let two = short_again (at + 4) (omega (arith, inside)) ∙ ap (slice_range bytes (at + 4)) next in
      let three = short_again (at + 8) (omega (arith, inside)) ∙ ap (slice_range bytes (at + 8)) end in
      let rest = part_then bytes (at + 4) (at + 8) (at + 12) (short second) (short third) (omega arith) (omega arith) two three in
      part_then bytes at (at + 4) (at + 12) (short first) (short second ++ short third) (omega arith) (omega arith) one rest
