-- Way lists in bytes: the entry that has begun last.
use Rattle.std.proofs.Common.{◌≡◌, ◌<◌, ◌+◌, ◌-◌, ◌*◌, ◌%◌, ◌∙◌, ℕ, List, Some, length, sym, ap, arith}
use Rattle.std.specs.Prelude.{slice_get}
use Rattle.std.specs.Option.{option_map}
use Rattle.std.proofs.lemmas.List.FromFn.{length-map-range_with_len}
use Rattle.cu_model.proofs.Begun.{IsLastBegun}
use Rattle.cu_model.specs.Days.{day}
use Rattle.cu_interval.specs.declared.ways.Entry.{Entry}
use Rattle.cu_interval.specs.WayLists.{way_at, way_in}
use Rattle.cu_interval.proofs.Spelled.{begins_at_zero, entries_rise}
use Rattle.cu_pack.specs.Places.{short_at}
use Rattle.cu_pack.specs.Reading.{entry_from}
use Rattle.cu_pack.specs.Steps.Columns.{ColumnRises, IsCountUpTo}
use Rattle.cu_pack.specs.Steps.Slices.{IsWaySlice, entries_from}
use Rattle.cu_pack.proofs.Numbering.Columns.{column_begun, column_rises, made_there}

module _ (bytes : List ℕ) (at count : ℕ) (list : List Entry) (f : IsWaySlice bytes at count) (same : entries_from bytes at count ≡ list) where
  pub way_slice_long : length list ≡ count
  way_slice_long = ap length (sym same) ∙ length-map-range_with_len (λ (index : ℕ). entry_from bytes (at + 12 * index)) 0 count

  column : (i : ℕ) → (entry_from bytes (at + 12 * (0 + i))).from ≡ short_at bytes (at + 12 * i)
  column i = let place : 0 + i ≡ i = omega arith in ap (λ (n : ℕ). short_at bytes (at + 12 * n)) place

  -- an entry of it
  pub way_slice_entry : (index : ℕ) → index < count → slice_get list index ≡ Some (entry_from bytes (at + 12 * index))
  way_slice_entry index inside =
      let place : 0 + index ≡ index = omega arith in
      ap (λ (es : List Entry). slice_get es index) (sym same)
      ∙ made_there (λ (i : ℕ). entry_from bytes (at + 12 * i)) 0 count index inside
      ∙ ap (λ (n : ℕ). Some (entry_from bytes (at + 12 * n))) place

  -- its seconds rise
  pub way_slice_rises : ColumnRises bytes at 12 count
  way_slice_rises = column_rises (λ (entry : Entry). entry.from) (λ (i : ℕ). entry_from bytes (at + 12 * i)) bytes 0 at 12 count column (entries_rise (entries_from bytes at count) f.spelled)

  -- where it has entries, one has begun, and the last of these is the one in force
  pub way_slice_begun : (second number : ℕ) → 0 < count → IsCountUpTo bytes at 12 count second number
      → (0 < number) × IsLastBegun (λ (entry : Entry). entry.from) (entries_from bytes at count) second (number - 1)
  way_slice_begun second number some f' =
      let long = length-map-range_with_len (λ (index : ℕ). entry_from bytes (at + 12 * index)) 0 count in
      column_begun (λ (entry : Entry). entry.from) (λ (i : ℕ). entry_from bytes (at + 12 * i)) bytes 0 at 12 count column second number f'
      (begins_at_zero (entries_from bytes at count) f.spelled (omega (arith, long, some)))

  pub way_slice_way : (t second number : ℕ) (entry : Entry) → second ≡ t % day → 0 < count → IsCountUpTo bytes at 12 count second number → slice_get list (number - 1) ≡ Some entry
      → Some entry.way ≡ way_at list t
  way_slice_way t second number entry time some f' there =
      let begun = way_slice_begun second number some f' in
      let last = begun.1.last ∙ ap (λ (es : List Entry). slice_get es (number - 1)) same ∙ there in
      sym (ap (λ (es : List Entry). way_at es t) (sym same) ∙ ap (way_in (entries_from bytes at count)) (sym time) ∙ ap (option_map (λ (e : Entry). e.way)) last)
