-- Rows of a table whose first numbers are a column in bytes: how many have begun.
use Rattle.std.proofs.Common.{◌≡◌, ◌<◌, ◌+◌, ◌-◌, ◌*◌, ◌∙◌, ℕ, List, Some, length, get_or, map, leb, true, false, refl, ap, arith}
use Rattle.std.specs.Prelude.{slice_get}
use Rattle.std.specs.Option.{option_map}
use Rattle.std.specs.List.{range_with_len}
use Rattle.std.specs.List.Sorted.{IsPartitionPoint}
use Rattle.std.proofs.lemmas.List.FromFn.{get_or-map-range_with_len, length-map-range_with_len}
use Rattle.std.proofs.lemmas.Option.{slice_get-get_or}
use Rattle.cu_model.specs.Begun.{Rises}
use Rattle.cu_model.proofs.Begun.{IsLastBegun, begun_point, gt_test, le_test, rises_between}
use Rattle.cu_pack.specs.Places.{short_at}
use Rattle.cu_pack.specs.Steps.Columns.{ColumnRises, IsCountUpTo}

-- the i-th of what is made of the numbers from one on
pub made_there : {X : Type 0} (made : ℕ → X) (a count i : ℕ) → i < count → slice_get (map made (range_with_len a count)) i ≡ Some (made (a + i))
made_there made a count i inside =
    let long = length-map-range_with_len made a count in
    slice_get-get_or (map made (range_with_len a count)) i (made a) (omega (arith, long, inside)) ∙ ap Some (get_or-map-range_with_len made a count i (a + i) (made a) inside refl)

module _ {X : Type 0} (from : X → ℕ) (made : ℕ → X) (bytes : List ℕ) (a at width count : ℕ)
    (column : (i : ℕ) → from (made (a + i)) ≡ short_at bytes (at + width * i)) where
  rows : List X
  rows = map made (range_with_len a count)

  row_there : (i : ℕ) (d : X) → i < count → get_or rows i d ≡ made (a + i)
  unfolding rows
  row_there i d inside = get_or-map-range_with_len made a count i (a + i) d inside refl

  rows_count : length rows ≡ count
  unfolding rows
  rows_count = length-map-range_with_len made a count

  row_from : (i : ℕ) (d : X) → i < count → from (get_or rows i d) ≡ short_at bytes (at + width * i)
  row_from i d inside = let there = row_there i d inside in ap from there ∙ column i

  -- rows that rise are a column that does
  pub column_rises : Rises from (map made (range_with_len a count)) → ColumnRises bytes at width count
  unfolding rows
  column_rises rises i j less inside =
      let d : X = made a in
      let one = row_from i d (omega (arith, less, inside)) in
      let two = row_from j d inside in
      let order = rises_between from rows rises d i j less (omega (arith, rows_count, inside)) in
      omega (arith, one, two, order)

  -- the count of numbers up to a bound is that of the rows
  pub column_point : (bound number : ℕ) → IsCountUpTo bytes at width count bound number
      → IsPartitionPoint (λ (x : X). leb (from x) bound ≡ true) (λ (x : X). leb (from x) bound ≡ false) (map made (range_with_len a count)) number
  unfolding rows
  column_point bound number f = (
    (λ k d low high.
        let inside : k < count = omega (arith, high, f.within) in
        let one = row_from k d inside in
        let most = f.up_to k high in
        le_test (from (get_or rows k d)) bound (omega (arith, one, most))),
    (λ k d low high.
        let inside : k < count = omega (arith, high, rows_count) in
        let one = row_from k d inside in
        let least = f.above k low inside in
        gt_test (from (get_or rows k d)) bound (omega (arith, one, least))),
  )

  -- so the row before is the last that has begun
  pub column_begun : (bound number : ℕ) → IsCountUpTo bytes at width count bound number → option_map from (slice_get (map made (range_with_len a count)) 0) ≡ Some 0
      → (0 < number) × IsLastBegun from (map made (range_with_len a count)) bound (number - 1)
  unfolding rows
  column_begun bound number f starts = begun_point from rows bound number starts (column_point bound number f) (omega (arith, rows_count, f.within))
