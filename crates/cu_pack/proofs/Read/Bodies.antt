-- Bytes with the digest in its place: what stands before it stays.
use Rattle.std.proofs.Common.{◌≡◌, ◌≤◌, ◌+◌, ◌-◌, ◌*◌, ◌∙◌, ◌<◌, ℕ, suc, List, ◌++◌, length, take, drop, refl, sym, ap, subst, arith, length-append}
use Rattle.std.specs.Prelude.{slice_range}
use Rattle.std.specs.Int.{w32, w64, from_le_bytes}
use Rattle.std.proofs.Math.Nat.{min-le_left, mul-le-mul_left}
use Rattle.std.proofs.lemmas.List.{drop-append-le, drop_at, length-drop, length-take, length-take-le, take-append-drop, take-append-le, take_at}
use Rattle.sha2.specs.Sha256.{sha256}
use Rattle.sha2.proofs.Facts256.{length-sha256}
use Rattle.cu_interval.specs.declared.ways.Entry.{Entry}
use Rattle.cu_interval.specs.Hierarchies.{HierarchyValue}
use Rattle.cu_pack.specs.Checks.{Spells, body_in, digest_in, sealed}
use Rattle.cu_pack.specs.Places.{long_at, short_at}
use Rattle.cu_pack.specs.Reading.{counts_in, entry_from, way_of}
use Rattle.cu_pack.specs.Spelling.{body, spelling_in}
use Rattle.cu_pack.specs.Steps.Fronts.{SpellsSections}
use Rattle.cu_pack.specs.Steps.Columns.{ColumnRises, IsCountUpTo}
use Rattle.cu_pack.proofs.Spelled.Again.{spelled_sections}
use Rattle.cu_pack.proofs.Numbering.Totals.{same_counts}

-- whatever the last 32 bytes are, sealed ones are those before them and the digest of these
pub sealed_front : (front last : List ℕ) → length last ≡ 32 → sealed (front ++ last) ≡ front ++ sha256 front
sealed_front front last short =
    let all = length-append front last in
    let before : body_in (front ++ last) ≡ front = take_at front last (length (front ++ last) - 32) (omega (arith, all, short)) in
    ap (λ bs. bs ++ sha256 bs) before

-- a digest that is right stays, as that of a packed file
pub sealed_same : (bytes : List ℕ) → digest_in bytes ≡ sha256 (body_in bytes) → sealed bytes ≡ bytes
sealed_same bytes right = ap (λ end. body_in bytes ++ end) (sym right) ∙ take-append-drop (length bytes - 32) bytes

pub spelled_sealed : (bytes : List ℕ) (h : HierarchyValue) → Spells bytes h → sealed bytes ≡ bytes
unfolding spelling_in
spelled_sealed bytes h f = subst (λ bs. sealed bs ≡ bs) (sym f.spelled) (sealed_front (body 2 h) (sha256 (body 2 h)) (length-sha256 (body 2 h)))

-- and then the digest is right
pub sealed_digest : (bytes : List ℕ) → digest_in (sealed bytes) ≡ sha256 (body_in (sealed bytes))
sealed_digest bytes =
    let body = body_in bytes in
    let digest = sha256 body in
    let place : length body ≡ length (sealed bytes) - 32 = omega (arith, length-append body digest, length-sha256 body) in
    drop_at body digest (length (sealed bytes) - 32) place ∙ ap sha256 (sym (take_at body digest (length (sealed bytes) - 32) place))

-- a part of what stands in front
front_part : (front rest : List ℕ) (at count : ℕ) → at + count ≤ length front → take count (drop at (front ++ rest)) ≡ take count (drop at front)
front_part front rest at count inside =
    let left = length-drop at front in
    ap (take count) (drop-append-le at front rest (omega (arith, inside))) ∙ take-append-le count (drop at front) rest (omega (arith, left, inside))

module _ (bytes file : List ℕ) (long : 32 ≤ length bytes) (same : sealed bytes ≡ file) where
  front_long : length (body_in bytes) ≡ length bytes - 32
  front_long = length-take-le (length bytes - 32) bytes (omega arith)

  pub sealed_long : length bytes ≡ length file
  sealed_long =
      let all = length-append (body_in bytes) (sha256 (body_in bytes)) in
      let digest = length-sha256 (body_in bytes) in
      let whole = ap length same in
      omega (arith, all, digest, front_long, long, whole)

  -- what is read before the digest
  part_kept : (at count : ℕ) → at + count ≤ length file - 32 → take count (drop at bytes) ≡ take count (drop at file)
  part_kept at count inside =
      let within : at + count ≤ length (body_in bytes) = omega (arith, inside, front_long, sealed_long) in
      ap (λ bs. take count (drop at bs)) (sym (take-append-drop (length bytes - 32) bytes)) ∙ front_part (body_in bytes) (drop (length bytes - 32) bytes) at count within
      ∙ sym (front_part (body_in bytes) (sha256 (body_in bytes)) at count within) ∙ ap (λ bs. take count (drop at bs)) same

  pub short_kept : (at : ℕ) → at + 4 ≤ length file - 32 → short_at bytes at ≡ short_at file at
  unfolding short_at
  short_kept at inside = ap (from_le_bytes w32) (part_kept at 4 inside)

  pub long_kept : (at : ℕ) → at + 8 ≤ length file - 32 → long_at bytes at ≡ long_at file at
  unfolding long_at
  long_kept at inside = ap (from_le_bytes w64) (part_kept at 8 inside)

  pub entry_kept : (at : ℕ) → at + 12 ≤ length file - 32 → entry_from bytes at ≡ entry_from file at
  entry_kept at inside =
      let of : ℕ → ℕ → ℕ → Entry = λ from kind number. record { from = from; way = way_of kind number } in
      ap (λ n. of n (short_at bytes (at + 4)) (short_at bytes (at + 8))) (short_kept at (omega (arith, inside)))
      ∙ ap (λ n. of (short_at file at) n (short_at bytes (at + 8))) (short_kept (at + 4) (omega (arith, inside)))
      ∙ ap (of (short_at file at) (short_at file (at + 4))) (short_kept (at + 8) (omega (arith, inside)))

  -- and a column
  module _ (at width count : ℕ) (wide : 4 ≤ width) (inside : at + width * count ≤ length file - 32) where
    row_kept : (i : ℕ) → i < count → short_at bytes (at + width * i) ≡ short_at file (at + width * i)
    row_kept i lt =
        let most = mul-le-mul_left {m = suc i} {n = count} width (omega (arith, lt)) in
        let next : width * suc i ≡ width * i + width = omega arith in
        short_kept (at + width * i) (omega (arith, most, next, wide, inside))

    pub rises_kept : ColumnRises file at width count → ColumnRises bytes at width count
    rises_kept f i j less lt =
        let one = row_kept i (omega (arith, less, lt)) in
        let two = row_kept j lt in
        let order = f i j less lt in
        omega (arith, one, two, order)

    pub count_kept : (bound number : ℕ) → IsCountUpTo bytes at width count bound number → IsCountUpTo file at width count bound number
    count_kept bound number f = record {
      within = f.within;
      up_to = λ i lt. let same_row = row_kept i (omega (arith, lt, f.within)) in let most = f.up_to i lt in omega (arith, same_row, most);
      above = λ i from lt. let same_row = row_kept i lt in let more = f.above i from lt in omega (arith, same_row, more);
    }

  pub range_kept : (start end : ℕ) → start ≤ end → end ≤ length file - 32 → slice_range bytes start end ≡ slice_range file start end
  range_kept start end order inside = part_kept start (end - start) (omega (arith, order, inside))

  pub counts_kept : 84 ≤ length bytes → counts_in bytes ≡ counts_in file
  unfolding counts_in
  counts_kept header =
      same_counts (counts_in bytes) (counts_in file) (short_kept 8 (omega (arith, header, sealed_long))) (short_kept 12 (omega (arith, header, sealed_long)))
      (short_kept 16 (omega (arith, header, sealed_long)))
      (short_kept 20 (omega (arith, header, sealed_long))) (short_kept 24 (omega (arith, header, sealed_long))) (long_kept 28 (omega (arith, header, sealed_long)))
      (long_kept 36 (omega (arith, header, sealed_long)))

-- bytes that are a packed file but for the last 32, and perhaps the bounds, have a header and these
pub unsealed_front : (bytes : List ℕ) (h : HierarchyValue) → SpellsSections (sealed bytes) h → 84 ≤ length bytes
unsealed_front bytes h f =
    let front = length-take (length bytes - 32) bytes in
    let least = min-le_left (length bytes - 32) (length bytes) in
    let all = length-append (body_in bytes) (sha256 (body_in bytes)) in
    let digest = length-sha256 (body_in bytes) in
    let whole = f.long in
    omega (arith, front, least, all, digest, whole)

pub unsealed_long : (bytes : List ℕ) (h : HierarchyValue) → Spells (sealed bytes) h → 84 ≤ length bytes
unsealed_long bytes h f = unsealed_front bytes h (spelled_sections (sealed bytes) h f)

-- bytes in memory whose digest was written: the part that it was written through, and what it wrote
pub sealed_in_place : (old part new rest : List ℕ) (count : ℕ) → 32 ≤ length old → part ≡ old → length part ≡ count → new ≡ sealed part → take count (new ++ rest) ≡ sealed old
sealed_in_place old part new rest count long same whole wrote =
    let done : new ≡ sealed old = wrote ∙ ap sealed same in
    take_at new rest count (ap length done ∙ sym (sealed_long old (sealed old) long refl) ∙ ap length (sym same) ∙ whole) ∙ done
