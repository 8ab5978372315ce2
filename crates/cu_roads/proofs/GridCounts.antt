-- How many roads a grid has.
use Rattle.std.proofs.Common.{◌≡◌, ◌∙◌, ◌≤◌, ◌<◌, ◌+◌, ◌-◌, ◌*◌, ◌/◌, ◌%◌, ◌++◌, ℕ, List, zero, suc, ap, arith, inl, inr, length, length-append, min}
use Rattle.std.specs.List.{flat_map, range_with_len}
use Rattle.std.proofs.lemmas.Bool.{cases_lt, lt-ltb, le-ltb}
use Rattle.std.proofs.lemmas.Nat.{div-add-mod', div-mul-add, mod_below, mul-le}
use Rattle.std.proofs.Math.Nat.{add-mul, mul_comm, mul-div_cancel_left, zero-div}
use Rattle.cu_roads.specs.declared.grids.TheConstants.{PROFILES}
use Rattle.cu_roads.specs.Draws.{after}
use Rattle.cu_roads.specs.Grids.{RoadEnds, ends_of_node, grid_ends, grid_network, next_row_ends, right_ends}
use Rattle.cu_roads.proofs.DrawnGrids.{flat_more, length-drawn_roads}

module _ (width node : ℕ) (wide : 1 ≤ width) where
  whole : node / width * width + node % width ≡ node
  whole = div-add-mod' node width

  below : node % width < width
  below = mod_below node width wide

  -- a neighbour in the row, for all nodes but the last of a row
  right_count : length (right_ends width node) + 2 * ((node + 1) / width) ≡ 2 + 2 * (node / width)
  right_count = elim (cases_lt (node % width + 1) width) [
    | inl right ↦
        let same : (node + 1) / width ≡ node / width =
        ap (λ (n : ℕ). n / width) (omega (arith, whole)) ∙ div-mul-add (node / width) width (node % width + 1) right in
        rw (lt-ltb (node % width + 1) width right) (omega (arith, same))
    | inr last ↦
        let more : (node / width + 1) * width ≡ node / width * width + 1 * width = add-mul (node / width) 1 width in
        let next : (node + 1) / width ≡ node / width + 1 =
        ap (λ (n : ℕ). n / width) (omega (arith, whole, last, more, below)) ∙ div-mul-add (node / width + 1) width 0 wide in
        rw (le-ltb (node % width + 1) width last) (omega (arith, next))
  ]

  -- a neighbour in the next row, for all nodes but those of the last row
  next_row_count : (height : ℕ) → 1 ≤ height
      → length (next_row_ends width height node) + 2 * min node ((height - 1) * width) ≡ 2 * min (node + 1) ((height - 1) * width)
  next_row_count height high = elim (cases_lt (node / width + 1) height) [
    | inl next ↦
        let more : (node / width + 1) * width ≡ node / width * width + 1 * width = add-mul (node / width) 1 width in
        let rows : (node / width + 1) * width ≤ (height - 1) * width = mul-le (node / width + 1) width (height - 1) width (omega (arith, next)) (omega arith) in
        rw (lt-ltb (node / width + 1) height next) (omega (arith, whole, below, more, rows))
    | inr last ↦
        let rows : (height - 1) * width ≤ node / width * width = mul-le (height - 1) width (node / width) width (omega (arith, last)) (omega arith) in
        rw (le-ltb (node / width + 1) height last) (omega (arith, whole, rows))
  ]

-- the roads that the first nodes give
ends_count : (width height count : ℕ) → 1 ≤ width → 1 ≤ height
    → length (flat_map (ends_of_node width height) (range_with_len 0 count)) + 2 * (count / width) ≡ 2 * count + 2 * min count ((height - 1) * width)
ends_count width height zero wide high = rw (zero-div width) (omega arith)
ends_count width height (suc count) wide high =
    let f : ℕ → List RoadEnds = ends_of_node width height in
    let m : ℕ = (height - 1) * width in
    let next : suc count ≡ count + 1 = omega arith in
    let before = ends_count width height count wide high in
    let more : flat_map f (range_with_len 0 (suc count)) ≡ flat_map f (range_with_len 0 count) ++ f count =
    ap (λ (n : ℕ). flat_map f (range_with_len 0 n)) next ∙ flat_more f count in
    let both : length (flat_map f (range_with_len 0 count) ++ f count) ≡ length (flat_map f (range_with_len 0 count)) + (length (right_ends width count) + length (next_row_ends width height count)) =
    length-append (flat_map f (range_with_len 0 count)) (f count)
    ∙ ap (λ (n : ℕ). length (flat_map f (range_with_len 0 count)) + n) (length-append (right_ends width count) (next_row_ends width height count)) in
    let quotient : suc count / width ≡ (count + 1) / width = ap (λ (n : ℕ). n / width) next in
    let right = right_count width count wide in
    let row = next_row_count width count wide height high in
    rw (more, both, quotient) (omega (arith, before, right, row))

-- two roads between neighbours in a row, and two between neighbours in a column
pub grid_count : (start width height : ℕ) → 1 ≤ width → 1 ≤ height → length (grid_network start width height).network.arcs ≡ 2 * ((width - 1) * height + (height - 1) * width)
unfolding grid_network grid_ends
grid_count start width height wide high =
    let drawn = length-drawn_roads (grid_ends width height) (after (2 * PROFILES) start) in
    let count = ends_count width height (width * height) wide high in
    let rows : width * height / width ≡ height = mul-div_cancel_left height wide in
    let less : (height - 1) * width ≤ height * width = mul-le (height - 1) width height width (omega arith) (omega arith) in
    let turned : height * width ≡ width * height = mul_comm height width in
    let row : (width - 1 + 1) * height ≡ (width - 1) * height + 1 * height = add-mul (width - 1) 1 height in
    let side : width - 1 + 1 ≡ width = omega (arith, wide) in
    let product = ap (λ (n : ℕ). n * height) side in
    omega (arith, drawn, count, rows, less, turned, row, product)
