-- Searches among the rows of one profile, one rank or one list of a file.
use Rattle.std.proofs.Common.{◌≡◌, ◌≢◌, ◌≤◌, ◌<◌, ◌+◌, ◌-◌, ◌*◌, ◌∙◌, ℕ, suc, List, None, Some, length, refl, sym, ap, subst, arith, inl, inr}
use Rattle.std.proofs.lemmas.Bool.{cases_lt}
use Rattle.std.proofs.lemmas.List.FromFn.{get_or-map-range_with_len, length-map-range_with_len}
use Rattle.std.proofs.lemmas.List.{ext_get_or}
use Rattle.cu_model.specs.declared.profiles.Piece.{Piece}
use Rattle.cu_model.specs.Profiles.{piece_at}
use Rattle.cu_model.specs.Days.{day}
use Rattle.cu_interval.specs.declared.ways.Entry.{Entry}
use Rattle.cu_interval.specs.WayLists.{IsWayList}
use Rattle.cu_interval.proofs.Spelled.{few_entries}
use Rattle.cu_pack.specs.declared.layout.Layout.{Layout}
use Rattle.cu_pack.specs.Layouts.{AreInLimits, file_length, layout_of, uppers_at}
use Rattle.cu_pack.specs.Places.{short_at}
use Rattle.cu_pack.specs.Reading.{counts_in, edge_start, entry_from, entry_place, list_in, piece_from, piece_place, profile_in, profile_start, upper_in, way_start}
use Rattle.cu_pack.specs.Steps.Columns.{ColumnRises, IsCountUpTo}
use Rattle.cu_pack.specs.Steps.Slices.{IsWaySlice, entries_from}
use Rattle.cu_pack.specs.Steps.Parts.{FindsUpper, HasList, HasPart, HasProfile, IsPartUpTo}
use Rattle.cu_pack.proofs.Numbering.Columns.{column_begun, column_rises, made_there}

-- the same column, told by other shorts
module _ (bytes bs : List ℕ) (same : bs ≡ bytes) (at bt width count other : ℕ) (place : at ≡ bt) (many : count ≡ other) where
  pub column_rises_at : ColumnRises bytes bt width other → ColumnRises bs at width count
  column_rises_at f =
      subst (λ (b : List ℕ). ColumnRises b at width count) (sym same)
      (subst (λ (a : ℕ). ColumnRises bytes a width count) (sym place) (subst (λ (n : ℕ). ColumnRises bytes bt width n) (sym many) f))

  pub count_up_to_at : (bound number : ℕ) → IsCountUpTo bs at width count bound number → IsCountUpTo bytes bt width other bound number
  count_up_to_at bound number f =
      subst (λ (n : ℕ). IsCountUpTo bytes bt width n bound number) many
      (subst (λ (a : ℕ). IsCountUpTo bytes a width count bound number) place (subst (λ (b : List ℕ). IsCountUpTo b at width count bound number) same f))

-- the layout is that of the bytes
pub layout_known : (bytes bs : List ℕ) (l : Layout) → bs ≡ bytes → l ≡ layout_of (counts_in bs) → l ≡ layout_of (counts_in bytes)
layout_known bytes bs l same laid = laid ∙ ap (λ (b : List ℕ). layout_of (counts_in b)) same

module _ (bytes : List ℕ) (profile : ℕ) (f : HasProfile bytes profile) where
  begins : (i : ℕ) → (piece_from bytes (piece_place bytes (profile_start bytes profile + i))).from ≡ short_at bytes (piece_place bytes (profile_start bytes profile) + 12 * i)
  begins i = let place : piece_place bytes (profile_start bytes profile + i) ≡ piece_place bytes (profile_start bytes profile) + 12 * i = omega arith in ap (short_at bytes) place

  -- the seconds of a profile's pieces rise
  pub pieces_rise : ColumnRises bytes (piece_place bytes (profile_start bytes profile)) 12 (profile_start bytes (suc profile) - profile_start bytes profile)
  pieces_rise =
      column_rises (λ (piece : Piece). piece.from) (λ (piece : ℕ). piece_from bytes (piece_place bytes piece)) bytes (profile_start bytes profile) (piece_place bytes (profile_start bytes profile)) 12
      (profile_start bytes (suc profile) - profile_start bytes profile) begins f.valid.rises

  -- and the last that has begun is found
  pub pieces_begun : (second number : ℕ) → IsCountUpTo bytes (piece_place bytes (profile_start bytes profile)) 12 (profile_start bytes (suc profile) - profile_start bytes profile) second number
      → (0 < number) × (piece_at (profile_in bytes profile) second ≡ Some (piece_from bytes (piece_place bytes (profile_start bytes profile + (number - 1)))))
  pieces_begun second number counted =
      let start = profile_start bytes profile in
      let count = profile_start bytes (suc profile) - start in
      let from : Piece → ℕ = λ piece. piece.from in
      let found = column_begun from (λ (piece : ℕ). piece_from bytes (piece_place bytes piece)) bytes start (piece_place bytes start) 12 count begins second number counted f.valid.starts in
      let there = made_there (λ (piece : ℕ). piece_from bytes (piece_place bytes piece)) start count (number - 1) (omega (arith, found.0, counted.within)) in
      (found.0, found.1.last ∙ there)

module _ (bytes : List ℕ) (low : ℕ) (f : HasPart bytes low) where
  upper_there : (i : ℕ) → upper_in bytes (edge_start bytes low + i) ≡ short_at bytes (uppers_at (counts_in bytes) + 4 * edge_start bytes low + 4 * i)
  upper_there i =
      let place : uppers_at (counts_in bytes) + 4 * (edge_start bytes low + i) ≡ uppers_at (counts_in bytes) + 4 * edge_start bytes low + 4 * i = omega arith in
      ap (short_at bytes) place

  -- the higher ranks of a rank's edges rise
  pub part_rises : ColumnRises bytes (uppers_at (counts_in bytes) + 4 * edge_start bytes low) 4 (edge_start bytes (suc low) - edge_start bytes low)
  part_rises i j less inside =
      let one = upper_there i in
      let two = upper_there j in
      let order = f.rising (edge_start bytes low + i) (edge_start bytes low + j) (omega arith) (omega (arith, less)) (omega (arith, inside)) in
      omega (arith, one, two, order)

  module _ (high number : ℕ) (counted : IsPartUpTo bytes low high number) where
    -- where the last that is at most the higher rank is another one, no edge leads there
    pub part_missed : (0 < number → upper_in bytes (edge_start bytes low + number - 1) ≢ high) → FindsUpper bytes low high None
    part_missed other edge from until same =
        let i = edge - edge_start bytes low in
        let on : edge_start bytes low + i ≡ edge = omega (arith, from) in
        let here : upper_in bytes (edge_start bytes low + i) ≡ upper_in bytes edge = ap (upper_in bytes) on in
        let there = upper_there i in
        elim (cases_lt i number) [
          | inl before ↦ elim (cases_lt edge (edge_start bytes low + number - 1)) [
            | inl less ↦
                let order = f.rising edge (edge_start bytes low + number - 1) from less (omega (arith, counted.within, before)) in
                let last = counted.up_to (number - 1) (omega (arith, before)) in
                let place : edge_start bytes low + (number - 1) ≡ edge_start bytes low + number - 1 = omega (arith, before) in
                let last_is = ap (upper_in bytes) place in
                let read = upper_there (number - 1) in
                absurd (omega (arith, order, last, last_is, read, same))
            | inr least ↦
                let last : edge ≡ edge_start bytes low + number - 1 = omega (arith, least, before, on) in
                other (omega (arith, before)) (ap (upper_in bytes) (sym last) ∙ same)
          ]
          | inr behind ↦
              let above = counted.above i behind (omega (arith, until, from)) in
              absurd (omega (arith, above, here, there, same))
        ]

module _ (bytes : List ℕ) (list : ℕ) (f : HasList bytes list) where
  pub list_long : length (list_in bytes list) ≡ way_start bytes (suc list) - way_start bytes list
  list_long = length-map-range_with_len (λ (entry : ℕ). entry_from bytes (entry_place bytes entry)) (way_start bytes list) (way_start bytes (suc list) - way_start bytes list)

  pub list_few : way_start bytes (suc list) - way_start bytes list ≤ day
  list_few = let few = few_entries (list_in bytes list) f.spelled in omega (arith, few, list_long)

  -- a list's entries are those from its place on
  pub list_placed : entries_from bytes (entry_place bytes (way_start bytes list)) (way_start bytes (suc list) - way_start bytes list) ≡ list_in bytes list
  list_placed =
      let start = way_start bytes list in
      let count = way_start bytes (suc list) - start in
      let none : Entry = entry_from bytes 0 in
      let long = length-map-range_with_len (λ (index : ℕ). entry_from bytes (entry_place bytes start + 12 * index)) 0 count in
      ext_get_or none (entries_from bytes (entry_place bytes start) count) (list_in bytes list) (long ∙ sym list_long) (λ i lt.
      let inside : i < count = omega (arith, lt, long) in
      let place : entry_place bytes start + 12 * i ≡ entry_place bytes (start + i) = omega arith in
      get_or-map-range_with_len (λ (index : ℕ). entry_from bytes (entry_place bytes start + 12 * index)) 0 count i i none inside (omega arith)
      ∙ ap (entry_from bytes) place
      ∙ sym (get_or-map-range_with_len (λ (entry : ℕ). entry_from bytes (entry_place bytes entry)) start count i (start + i) none inside refl))

  pub list_slice : AreInLimits (counts_in bytes) → file_length (counts_in bytes) ≡ length bytes
      → IsWaySlice bytes (entry_place bytes (way_start bytes list)) (way_start bytes (suc list) - way_start bytes list)
  list_slice limits size = record {
    room = omega (arith, f.order, f.within, size);
    fits = omega (arith, f.order, f.within, limits.nodes, limits.arcs, limits.profiles, limits.edges, limits.pieces, limits.entries);
    spelled = subst IsWayList (sym list_placed) f.spelled;
  }
