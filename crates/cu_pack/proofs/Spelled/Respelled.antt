-- The sections of bytes are the numbers in them, written again.
use Rattle.std.proofs.Common.{◌≡◌, ◌≤◌, ◌<◌, ◌+◌, ◌-◌, ◌*◌, ◌∙◌, ℕ, zero, suc, List, length, map, flat_map, refl, ap, arith}
use Rattle.std.specs.Prelude.{slice_range}
use Rattle.std.specs.List.{range_with_len}
use Rattle.std.proofs.lemmas.List.Folds.{flat_map-map}
use Rattle.cu_pack.specs.Layouts.{arcs_at}
use Rattle.cu_pack.specs.Places.{long_at, short_at}
use Rattle.cu_pack.specs.Reading.{arc_from, arc_in, counts_in, entry_from, piece_from, rule_of, way_of, shorts_in}
use Rattle.cu_pack.specs.Spelling.{arc_bytes, entry_bytes, long, piece_bytes, rule_bytes, triple, way_bytes, short}
use Rattle.cu_pack.proofs.Numbering.Slices.{parts_in_turn, parts_of_width}
use Rattle.cu_pack.proofs.Numbering.Numbers.{AreBytes, long_again, triple_again, short_again}

-- three numbers are written again, the second a kind
rule_again : (from kind value : ℕ) → kind ≤ 2 → rule_bytes from (rule_of kind value) ≡ triple from kind value
rule_again from zero value most = refl
rule_again from (suc zero) value most = refl
rule_again from (suc (suc kind)) value most = let same : 2 ≡ suc (suc kind) = omega (arith, most) in ap (λ n. triple from n value) same

way_again : (from kind value : ℕ) → kind ≤ 1 → way_bytes from (way_of kind value) ≡ triple from kind value
way_again from zero value most = refl
way_again from (suc kind) value most = let same : 1 ≡ suc kind = omega (arith, most) in ap (λ n. triple from n value) same

-- the items of a list from its start to the next one
abbrev pub read_by : {T : Type 0} → (ℕ → T) → (ℕ → ℕ) → ℕ → List T
read_by read start k = map read (range_with_len (start k) (start (suc k) - start k))

module _ (bytes : List ℕ) (small : AreBytes bytes) where
  -- so many numbers in four bytes each, and in eight
  pub shorts_made_again : (number : ℕ → ℕ) (at count : ℕ) → at + 4 * count ≤ length bytes → ((k : ℕ) → k < count → number k ≡ short_at bytes (at + 4 * k))
      → flat_map short (map number (range_with_len 0 count)) ≡ slice_range bytes at (at + 4 * count)
  shorts_made_again number at count inside same =
      let first : at + 4 * 0 ≡ at = omega arith in
      let last : at + 4 * (0 + count) ≡ at + 4 * count = omega arith in
      flat_map-map short number (range_with_len 0 count)
      ∙ parts_of_width bytes 4 at (λ k. short (number k)) 0 count (λ k low high. ap short (same k (omega (arith, high))) ∙ short_again bytes small (at + 4 * k) (omega (arith, high, inside)))
      ∙ ap (λ m. slice_range bytes m (at + 4 * (0 + count))) first ∙ ap (slice_range bytes at) last

  pub shorts_again : (at count : ℕ) → at + 4 * count ≤ length bytes → flat_map short (shorts_in bytes at count) ≡ slice_range bytes at (at + 4 * count)
  shorts_again at count inside = shorts_made_again (λ k. short_at bytes (at + 4 * k)) at count inside (λ k lt. refl)

  pub longs_again : (at count : ℕ) → at + 8 * count ≤ length bytes
      → flat_map long (map (λ k. long_at bytes (at + 8 * k)) (range_with_len 0 count)) ≡ slice_range bytes at (at + 8 * count)
  longs_again at count inside =
      let first : at + 8 * 0 ≡ at = omega arith in
      let last : at + 8 * (0 + count) ≡ at + 8 * count = omega arith in
      flat_map-map long (λ k. long_at bytes (at + 8 * k)) (range_with_len 0 count)
      ∙ parts_of_width bytes 8 at (λ k. long (long_at bytes (at + 8 * k))) 0 count (λ k low high. long_again bytes small (at + 8 * k) (omega (arith, high, inside)))
      ∙ ap (λ m. slice_range bytes m (at + 8 * (0 + count))) first ∙ ap (slice_range bytes at) last

  -- a piece, an entry and a road
  pub piece_again : (at : ℕ) → at + 12 ≤ length bytes → short_at bytes (at + 4) ≤ 2 → piece_bytes (piece_from bytes at) ≡ slice_range bytes at (at + 12)
  unfolding piece_bytes
  piece_again at inside kind = rule_again (short_at bytes at) (short_at bytes (at + 4)) (short_at bytes (at + 8)) kind ∙ triple_again bytes small at inside

  pub entry_again : (at : ℕ) → at + 12 ≤ length bytes → short_at bytes (at + 4) ≤ 1 → entry_bytes (entry_from bytes at) ≡ slice_range bytes at (at + 12)
  unfolding entry_bytes
  entry_again at inside kind = way_again (short_at bytes at) (short_at bytes (at + 4)) (short_at bytes (at + 8)) kind ∙ triple_again bytes small at inside

  arc_again : (at : ℕ) → at + 12 ≤ length bytes → arc_bytes (arc_from bytes at) ≡ slice_range bytes at (at + 12)
  unfolding arc_bytes
  arc_again at inside = triple_again bytes small at inside

  pub arcs_again : (count : ℕ) → arcs_at (counts_in bytes) + 12 * count ≤ length bytes
      → flat_map arc_bytes (map (arc_in bytes) (range_with_len 0 count)) ≡ slice_range bytes (arcs_at (counts_in bytes)) (arcs_at (counts_in bytes) + 12 * count)
  arcs_again count inside =
      let at : ℕ = arcs_at (counts_in bytes) in
      let first : at + 12 * 0 ≡ at = omega arith in
      let last : at + 12 * (0 + count) ≡ at + 12 * count = omega arith in
      flat_map-map arc_bytes (arc_in bytes) (range_with_len 0 count)
      ∙ parts_of_width bytes 12 at (λ k. arc_bytes (arc_in bytes k)) 0 count (λ k low high. arc_again (at + 12 * k) (omega (arith, high, inside)))
      ∙ ap (λ m. slice_range bytes m (at + 12 * (0 + count))) first ∙ ap (slice_range bytes at) last

  -- what is written one behind the other in lists, where each starts behind the one before
  module _ {T : Type 0} (written : T → List ℕ) (read : ℕ → T) (at : ℕ) (start : ℕ → ℕ) where
    one_again : (k : ℕ) → start k ≤ start (suc k) → ((j : ℕ) → start k ≤ j → j < start (suc k) → written (read j) ≡ slice_range bytes (at + 12 * j) (at + 12 * j + 12))
        → flat_map written (read_by read start k) ≡ slice_range bytes (at + 12 * start k) (at + 12 * start (suc k))
    one_again k rises each =
        let end : start k + (start (suc k) - start k) ≡ start (suc k) = omega (arith, rises) in
        flat_map-map written read (range_with_len (start k) (start (suc k) - start k))
        ∙ parts_of_width bytes 12 at (λ j. written (read j)) (start k) (start (suc k) - start k) (λ j low high. each j low (omega (arith, high, end)))
        ∙ ap (λ m. slice_range bytes (at + 12 * start k) (at + 12 * m)) end

    pub lists_again : (count all : ℕ) → start 0 ≡ 0 → start count ≡ all
        → ((k : ℕ) → k < count → (start k ≤ start (suc k)) × ((j : ℕ) → start k ≤ j → j < start (suc k) → written (read j) ≡ slice_range bytes (at + 12 * j) (at + 12 * j + 12)))
        → flat_map (flat_map written) (map (read_by read start) (range_with_len 0 count)) ≡ slice_range bytes at (at + 12 * all)
    lists_again count all first last each =
        let begin : at + 12 * start 0 ≡ at = omega (arith, first) in
        let last_at : start (0 + count) ≡ start count = ap start (omega arith) in
        let end : at + 12 * start (0 + count) ≡ at + 12 * all = omega (arith, last, last_at) in
        flat_map-map (flat_map written) (read_by read start) (range_with_len 0 count)
        ∙ (parts_in_turn bytes (λ k. at + 12 * start k) (λ k. flat_map written (read_by read start k)) 0 count (λ k low high.
        let here = each k (omega (arith, high)) in (omega (arith, here.0), one_again k here.0 here.1))).1
        ∙ ap (λ m. slice_range bytes m (at + 12 * start (0 + count))) begin ∙ ap (slice_range bytes at) end
