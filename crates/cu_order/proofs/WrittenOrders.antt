-- What is written is read as the same order.
use Rattle.std.proofs.Common.{◌≡◌, ◌∙◌, ◌≤◌, ◌<◌, ◌+◌, ◌^◌, ℕ, List, [], ◌∷◌, ◌++◌, Bool, true, false, Option, Some, None, arith, eqb, length, get_or, take, map, refl, sym, ap}
use Rattle.std.proofs.Common.{subst, append_assoc, length-append}
use Rattle.std.specs.Prelude.{All, Ok, decimal, slice_get, nat_lt, not, if◌then◌else◌}
use Rattle.std.specs.List.{IsDistinct, list_any}
use Rattle.std.specs.Str.Parse.{AllDigits}
use Rattle.std.proofs.lemmas.List.{append-nil, map-append, take_more}
use Rattle.std.proofs.lemmas.Option.{slice_get-get_or, get_or_from_slice_get, slice_get_within}
use Rattle.std.proofs.Math.ListN.{get_or-append}
use Rattle.std.proofs.Math.Seq.{get_or-append_seam}
use Rattle.std.proofs.lemmas.Bool.{ne_eqb, le-ltb, lt-ltb}
use Rattle.std.proofs.lemmas.List.Folds.{list_any_none}
use Rattle.std.proofs.lemmas.Bool.Decides.{Decides-eqb}
use Rattle.std.proofs.lemmas.Fmt.{decimal_is_IsNumeral}
use Rattle.std.proofs.lemmas.List.Elements.{All-from_get_or, All-head, All-tail}
use Rattle.std.proofs.lemmas.Map.Made.{AllPairs-from_IsDistinct, IsDistinct-from_AllPairs}
use Rattle.std.proofs.lemmas.Str.Parse.{digit_at}
use Rattle.csv.proofs.RoundTrip.{rows_text}
use Rattle.csv.specs.Writing.{default_writer, end_text, escaped, field_text, fields_text, is_blank, needs_quotes, read_back}
use Rattle.cu_model.specs.Numbers.{is_number_word}
use Rattle.cu_model.specs.declared.limits.TheConstants.{MAX_NODES}
use Rattle.cu_model.specs.Orders.{OrderValue, IsOrder}
use Rattle.cu_tables.specs.Checks.{unless}
use Rattle.cu_tables.specs.Tables.{table}
use Rattle.cu_tables.proofs.Numerals.{decimal_value, decimal_word}
use Rattle.cu_tables.proofs.Round.{table_of_none, table_of_rows}
use Rattle.cu_order.specs.declared.refusals.OrderRefusal.{OrderRefusal}
use Rattle.cu_order.specs.declared.refusals.OrderRefusal.TheVariants.{Number, Range, Twice}
use Rattle.cu_order.specs.OrderTexts.{is_node_row, node_fault, node_of_row, nodes_from, order_of}
use Rattle.cu_order.specs.Written.{node_row}

-- one more row
pub node_more : (nodes : List ℕ) (rank node : ℕ) → slice_get nodes rank ≡ Some node → map node_row (take rank nodes) ++ (node_row node ∷ []) ≡ map node_row (take (rank + 1) nodes)
node_more nodes rank node e =
    let below = slice_get_within nodes rank node e in
    ap (λ (n : ℕ). map node_row (take rank nodes) ++ (node_row n ∷ [])) (sym (get_or_from_slice_get nodes rank node node e))
    ∙ sym (ap (map node_row) (take_more nodes rank node below) ∙ map-append node_row (take rank nodes) (get_or nodes rank node ∷ []))

-- the text begins with a digit or a quote, and so with no byte-order mark

starts : (quoted : Bool) (inside word tail : List ℕ) → 0 < length word → AllDigits 10 word
    → (first : ℕ) × (rest : List ℕ) × (((if quoted then 34 ∷ inside else word) ++ tail) ≡ first ∷ rest) × (first < 128)
starts true inside word tail some digits = (34, inside ++ tail, refl, omega arith)
starts false inside [] tail some digits = absurd (omega (arith, some))
starts false inside (digit ∷ word) tail some digits =
    let low = digit_at (digit ∷ word) 0 digits (omega arith) in
    let high : digit ≤ 57 = low.1 in
    (digit, word ++ tail, refl, omega (arith, high))

begins : (node : ℕ) (nodes : List ℕ) → node < 2 ^ 64 → (first : ℕ) × (rest : List ℕ) × (rows_text (map node_row (node ∷ nodes)) ≡ first ∷ rest) × (first < 128)
unfolding rows_text fields_text
begins node nodes h =
    let word = decimal node in
    let numeral = decimal_is_IsNumeral node h in
    let line = field_text default_writer word in
    let end = (if is_blank default_writer (word ∷ []) then 34 ∷ 34 ∷ [] else []) ++ end_text default_writer.terminator in
    let more = rows_text (map node_row nodes) in
    let s = starts (needs_quotes default_writer word) (escaped default_writer word ++ (34 ∷ [])) word (end ++ more) numeral.0.0 numeral.0.1 in
    (s.0, s.1, append_assoc (line ++ []) end more ∙ append_assoc line [] (end ++ more) ∙ s.2, s.3)

rows_back : (nodes : List ℕ) → map read_back (map node_row nodes) ≡ map node_row nodes
rows_back [] = refl
rows_back (node ∷ nodes) = ap (λ (rows : List (List (List ℕ))). node_row node ∷ rows) (rows_back nodes)

-- the text is read as its rows
table_written : (count : ℕ) (nodes : List ℕ) → count ≤ MAX_NODES → All (λ node. node < count) nodes → table (rows_text (map node_row nodes)) ≡ map node_row nodes
table_written count [] few a = table_of_none
table_written count (node ∷ nodes) few a =
    let below : node < count = All-head (λ x. x < count) node nodes a in
    let (first, rest, e, low) = begins node nodes (omega (arith, below, few)) in
    table_of_rows (map node_row (node ∷ nodes)) first rest e low ∙ rows_back (node ∷ nodes)

-- a node isn't among those before it

not_before : (before : List ℕ) (node : ℕ) (rest : List ℕ) → IsDistinct eqb (before ++ (node ∷ rest)) → list_any (eqb node) before ≡ false
not_before before node rest once =
    list_any_none (eqb node) before
    (λ k d h. ne_eqb node (get_or before k d)
    (λ e.
    let long = length-append before (node ∷ rest) in
    let differ = AllPairs-from_IsDistinct Decides-eqb (before ++ (node ∷ rest)) once k (length before) d h (omega (arith, long)) in
    absurd (differ (get_or-append before (node ∷ rest) d k h ∙ sym e ∙ sym (get_or-append_seam before node rest d)))))

-- each row passes its checks

passes_all : (b1 b2 b3 : Bool) (x1 x2 x3 : OrderRefusal) → b1 ≡ true → b2 ≡ true → b3 ≡ false
    → (if not b1 then Some x1 else if not b2 then Some x2 else if b3 then Some x3 else None) ≡ None
passes_all b1 b2 b3 x1 x2 x3 e1 e2 e3 = rw (e1, e2, e3) refl

row_passes : (count : ℕ) (before : List ℕ) (node : ℕ) → count ≤ MAX_NODES → node < count → list_any (eqb node) before ≡ false → node_fault count before (node_row node) ≡ None
row_passes count before node few below new =
    let value : node_of_row (node_row node) ≡ node = decimal_value node (omega (arith, below, few)) in
    let word : is_number_word (decimal node) ≡ true = decimal_word node (omega (arith, below, few)) in
    passes_all (is_node_row (node_row node)) (nat_lt (node_of_row (node_row node)) count) (list_any (eqb (node_of_row (node_row node))) before)
    (Number (length before)) (Range (length before)) (Twice (length before))
    word
    (ap (λ (n : ℕ). nat_lt n count) value ∙ lt-ltb node count below)
    (ap (λ (n : ℕ). list_any (eqb n) before) value ∙ new)

nodes_again : (count : ℕ) (before rest : List ℕ) → count ≤ MAX_NODES → count ≡ length before + length rest → All (λ node. node < count) rest → IsDistinct eqb (before ++ rest)
    → nodes_from count before (map node_row rest) ≡ Ok (before ++ rest)
nodes_again count before [] few e a d =
    let whole : before ++ [] ≡ before = append-nil before in
    rw (le-ltb (length before) count (omega (arith, e)), whole) refl
nodes_again count before (node ∷ rest) few e a d =
    let below : node < count = All-head (λ x. x < count) node rest a in
    let value : node_of_row (node_row node) ≡ node = decimal_value node (omega (arith, below, few)) in
    let passes = row_passes count before node few below (not_before before node rest d) in
    let joined : (before ++ (node ∷ [])) ++ rest ≡ before ++ (node ∷ rest) = append_assoc before (node ∷ []) rest in
    let long = length-append before (node ∷ []) in
    ap (λ (f : Option OrderRefusal). unless f (nodes_from count (before ++ (node_of_row (node_row node) ∷ [])) (map node_row rest))) passes
    ∙ ap (λ (n : ℕ). nodes_from count (before ++ (n ∷ [])) (map node_row rest)) value
    ∙ nodes_again count (before ++ (node ∷ [])) rest few (omega (arith, e, long)) (All-tail (λ x. x < count) node rest a) (subst (IsDistinct eqb) (sym joined) d)
    ∙ ap Ok joined

module _ (o : OrderValue) (f : IsOrder o) where
  -- an order has each node once
  in_range : All (λ node. node < length o.node_at) o.node_at
  in_range = All-from_get_or (λ node. node < length o.node_at) o.node_at 0
      (λ rank h.
      let there = f.ranked rank (get_or o.node_at rank 0) (slice_get-get_or o.node_at rank 0 h) in
      let below = slice_get_within o.rank_of (get_or o.node_at rank 0) rank there in
      let same = f.same in
      omega (arith, below, same))

  once : IsDistinct eqb o.node_at
  once = IsDistinct-from_AllPairs Decides-eqb o.node_at
      (λ i j d lt h e.
      let first = f.ranked i (get_or o.node_at i d) (slice_get-get_or o.node_at i d (omega (arith, lt, h))) in
      let second = f.ranked j (get_or o.node_at j d) (slice_get-get_or o.node_at j d h) in
      let moved : slice_get o.rank_of (get_or o.node_at j d) ≡ Some i = subst (λ node. slice_get o.rank_of node ≡ Some i) e first in
      let same : i ≡ j = cc (moved, second) in
      absurd (omega (arith, lt, same)))

  -- what is written is read as the same order
  pub again : order_of (length o.node_at) (rows_text (map node_row o.node_at)) ≡ Ok o.node_at
  unfolding order_of
  again =
      ap (λ (rows : List (List (List ℕ))). nodes_from (length o.node_at) [] rows) (table_written (length o.node_at) o.node_at f.few in_range)
      ∙ nodes_again (length o.node_at) [] o.node_at f.few (omega arith) in_range once
