-- Keeping what was met: rows stay true of their lists.
use Rattle.std.proofs.Common.{◌≡◌, ◌≤◌, ◌+◌, ◌-◌, ◌*◌, ◌⊎◌, ℕ, zero, suc, List, [], ◌∷◌, ◌++◌, Some, All, length, refl, sym, ap, subst, arith, rules, inl, inr, ◌∙◌, replicate}
use Rattle.std.specs.Prelude.{slice_get, slice_set}
use Rattle.std.proofs.lemmas.List.{length-append, length-replicate}
use Rattle.std.proofs.lemmas.List.Elements.{All-replicate}
use Rattle.std.proofs.lemmas.Option.{get_or_from_slice_get, slice_get_within}
use Rattle.cu_interval.specs.Hierarchies.{HierarchyValue}
use Rattle.cu_recall.specs.declared.downs.DownSpan.{DownSpan}
use Rattle.cu_recall.specs.declared.spans.Driven.{Driven}
use Rattle.cu_recall.specs.declared.spans.Met.{Met}
use Rattle.cu_recall.specs.declared.spans.Parts.{Parts}
use Rattle.cu_recall.specs.declared.spans.Parts.TheVariants as part
use Rattle.cu_recall.specs.declared.spans.Row.{Row}
use Rattle.cu_recall.specs.declared.spans.Span.{Span}
use Rattle.cu_recall.specs.Rooms.{Fits, no_row, rows_of}
use Rattle.cu_recall.specs.Spans.{HasSecond, HoldsMet, HoldsParts, HoldsRow, HoldsSpan, Knows, WalkTakes}
use Rattle.cu_recall.specs.Windows.{HoldsDriven, IsWindow}

-- what stands in a list after a write was written, or stood there before
pub set_or : {X : Type 0} (xs : List X) (i j : ℕ) (x y : X) → slice_get (slice_set xs i x) j ≡ Some y → ((i ≡ j) × (x ≡ y)) ⊎ (slice_get xs j ≡ Some y)
set_or [] i j x y e = inr e
set_or (z ∷ zs) zero zero x y e = inl (refl, cc e)
set_or (z ∷ zs) zero (suc j) x y e = inr e
set_or (z ∷ zs) (suc i) zero x y e = inr e
set_or (z ∷ zs) (suc i) (suc j) x y e =
    elim (set_or zs i j x y e) [
      | inl here ↦ inl (ap suc here.0, here.1)
      | inr before ↦ inr before
    ]

-- a row that is true of its list may be written
pub knows_set : (h : HierarchyValue) (rows : List Row) (list : ℕ) (row : Row) → Knows h rows → HoldsRow h list row → Knows h (slice_set rows list row)
knows_set h rows list row knows holds j found at =
    elim (set_or rows list j row found at) [
      | inl here ↦ subst (λ (n : ℕ). HoldsRow h n found) here.0 (subst (λ (r : Row). HoldsRow h list r) here.1 holds)
      | inr before ↦ knows j found before
    ]

-- what driving takes near a second is a span of no more seconds
pub driven_span : (h : HierarchyValue) (list second back ahead : ℕ) (driven : Driven) (span : Span) → IsWindow second driven.back driven.ahead
    → back ≤ driven.back → ahead ≤ driven.ahead → span.from ≡ second - back → span.seconds ≡ back + ahead → span.travel ≡ driven.travel → span.roads ≡ driven.roads
    → HoldsDriven h list second driven → HoldsSpan h list span
driven_span h list second back ahead driven span window less fewer from seconds travel roads holds =
    let inside = window.0 in
    let until = window.2 in (
      omega (arith, inside, until, less, fewer, from, seconds),
      λ u v t is has.
          let low = has.0 in
          let high = has.1 in
          let takes = (holds u v is).takes t (omega (arith, low, from, less, inside), omega (arith, high, from, seconds, fewer, less, inside)) in
          subst (λ n. WalkTakes h u v t span.travel n) (sym roads) (subst (λ n. WalkTakes h u v t n driven.roads) (sym travel) takes),
    )

-- a span is what driving takes near each of its seconds
pub span_driven : (h : HierarchyValue) (list second : ℕ) (span : Span) (driven : Driven) → HasSecond span second
    → driven.back ≡ second - span.from → driven.ahead ≡ span.seconds - (second - span.from) → driven.travel ≡ span.travel → driven.roads ≡ span.roads
    → HoldsSpan h list span → HoldsDriven h list second driven
span_driven h list second span driven has back ahead travel roads holds u v is =
    let low = has.0 in
    let high = has.1 in
    let until = holds.0 in
    record {
      window = (omega (arith, back), omega (arith, ahead, low, high), omega (arith, ahead, low, high, until));
      takes = λ t near.
          let first = near.0 in
          let last = near.1 in
          let takes = holds.1 u v t is (omega (arith, first, back, low), omega (arith, last, ahead, low, high)) in
          subst (λ n. WalkTakes h u v t driven.travel n) (sym roads) (subst (λ n. WalkTakes h u v t n span.roads) (sym travel) takes);
    }

-- the parts of the way in force over some seconds are those over the first of them
parts_over_first : (h : HierarchyValue) (u v from until first : ℕ) (parts : Parts) → first ≤ until → HoldsParts h u v from until parts → HoldsParts h u v from first parts
parts_over_first h u v from until first (part.Road road) le taken = λ t low high. taken t low (omega (arith, high, le))
parts_over_first h u v from until first (part.Halves one two) le (m, both, taken) = (m, both, λ t low high. taken t low (omega (arith, high, le)))

-- an entry that holds does so over an even number of its seconds
pub evenly_met : (h : HierarchyValue) (list : ℕ) (met : Met) (pairs : ℕ) (parts : Parts) → met.parts ≡ parts → met.from + 2 * pairs ≤ met.until → HoldsMet h list met
    → HoldsMet h list (record { from = met.from; until = met.from + 2 * pairs; parts = parts })
evenly_met h list met pairs parts same le (early, holds) = (
  omega (arith, le, early),
  λ u v is some.
      parts_over_first h u v met.from met.until (met.from + 2 * pairs) parts le
      (subst (λ (p : Parts). HoldsParts h u v met.from met.until p) same (holds u v is (omega (arith, some, le)))),
)

-- a row that says nothing is true of each list, and so are as many of it as there are lists
pub nothing_known : (h : HierarchyValue) (n : ℕ) (row : Row) (rows : List Row) → ((list : ℕ) → HoldsRow h list row) → rows ≡ replicate n row → Knows h rows
nothing_known h n row rows holds same list found at =
    let lt = slice_get_within rows list found at in
    let all : All (λ (r : Row). r ≡ row) rows = subst (All (λ (r : Row). r ≡ row)) (sym same) (All-replicate (λ (r : Row). r ≡ row) n row refl) in
    let is : found ≡ row = sym (get_or_from_slice_get rows list found row at) ∙ all list row lt in
    subst (HoldsRow h list) (sym is) (holds list)

-- where no row is written nothing is known
pub nothing_written : (h : HierarchyValue) (lists : ℕ) (rows : List Row) → rows ≡ [] → Knows h (rows_of lists rows)
nothing_written h lists rows none = subst (λ (rs : List Row). Knows h (rows_of lists rs)) (sym none) (nothing_known h (lists - 0) no_row _ (λ list. search rules) refl)

-- a row that is written is that of its list
slice_get_front : (rows rest : List Row) (list : ℕ) (row : Row) → slice_get rows list ≡ Some row → slice_get (rows ++ rest) list ≡ Some row
slice_get_front [] rest list row at = cc at
slice_get_front (r ∷ rows) rest zero row at = cc at
slice_get_front (r ∷ rows) rest (suc list) row at = slice_get_front rows rest list row at

-- the rows that are written are among those of the lists
pub known_written : (h : HierarchyValue) (lists : ℕ) (rows : List Row) → Knows h (rows_of lists rows) → Knows h rows
known_written h lists rows knows list row at = knows list row (slice_get_front rows _ list row at)

-- where each row is written they are those of the lists
pub all_written : (lists : ℕ) (rows : List Row) → length rows ≡ lists → rows_of lists rows ≡ rows
all_written lists rows same = search rules

-- there are as many as lists
pub length_rows : (lists : ℕ) (rows : List Row) → length rows ≤ lists → length (rows_of lists rows) ≡ lists
length_rows lists rows most = omega (arith, length-append rows (replicate (lists - length rows) no_row), length-replicate (lists - length rows) no_row, most)

-- room whose rows are all written fits by them
pub fits_written : (h : HierarchyValue) (nodes lists : ℕ) (rows : List Row) (downs : List DownSpan) → length rows ≡ lists → Fits h (record { nodes = nodes; rows = rows; downs = downs })
    → Fits h (record { nodes = nodes; rows = rows_of lists rows; downs = downs })
fits_written h nodes lists rows downs same fits = subst (λ (rs : List Row). Fits h (record { nodes = nodes; rows = rs; downs = downs })) (sym (all_written lists rows same)) fits
