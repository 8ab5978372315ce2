-- What is read from the arrays of a chordal graph.
use Rattle.std.proofs.Common.{◌≡◌, ◌≤◌, ◌<◌, ◌+◌, ℕ, List, Option, Some, None, Result, Ok, Err, length, get_or, sym, ◌∙◌, ap, subst, arith, inl, inr, nat_cmp}
use Rattle.std.specs.Prelude.{◌↔◌, All, slice_get, MatchResult}
use Rattle.std.specs.List.{Contains}
use Rattle.std.specs.Result.{result_ok}
use Rattle.std.specs.List.Sorted.{IsStrictlyIncreasing, IsBinarySearchResult}
use Rattle.std.proofs.lemmas.List.{get_or_read, get_or_default}
use Rattle.std.proofs.lemmas.List.Edits.{length-between}
use Rattle.std.proofs.lemmas.List.Kept.{AllPairs-from_increasing}
use Rattle.std.proofs.lemmas.List.Sorted.{searched}
use Rattle.std.proofs.lemmas.Option.{same_Some, slice_get-get_or, slice_get_within, get_or_from_slice_get}
use Rattle.std.proofs.lemmas.Bool.{cases_lt, cases_eq}
use Rattle.cu_chordal.specs.declared.graph.Ends.{Ends}
use Rattle.cu_chordal.specs.Graphs.{ChordalValue, FindsEdge, HasEdge, IsChordal, NumbersEdges, up_of, down_of, first_edge_of}
use Rattle.cu_chordal.specs.Groups.{AreGroups, group_of}
use Rattle.cu_chordal.specs.Steps.Flat.{AreLower, FindsIndex, IsLaidOut, IsTable, edges_in, graph_in}
use Rattle.cu_chordal.specs.declared.table.EdgeTable.{EdgeTable}
use Rattle.cu_chordal.specs.declared.graph.TheConstants.{MAX_EDGES}
use Rattle.cu_chordal.proofs.Tables.{length_paired, paired_at, down_grouped, down_of_from_edge, down_rising, edge_from_down_of, edge_from_up_of, up_rising, up_of_from_edge}
use Rattle.cu_chordal.proofs.Tables.{numbered, increasing_from_pairs}

-- a graph that is laid out in a table and lists of lower neighbours, and what is read of it
module _ (ranks : ℕ) (table : EdgeTable) (lower : List (List ℕ)) (graph : ChordalValue) (f : IsLaidOut ranks table lower) (shown : graph_in ranks table ≡ graph) where
  pub edges_read : (length table.lows.items ≡ length graph.edges) × (length table.highs.items ≡ length graph.edges) × (length graph.edges ≤ MAX_EDGES)
  edges_read =
      let same : length (edges_in table) ≡ length table.lows.items = length_paired table.lows.items table.highs.items f.upper.pairs in
      subst (λ (v : ChordalValue). (length table.lows.items ≡ length v.edges) × (length table.highs.items ≡ length v.edges) × (length v.edges ≤ MAX_EDGES)) shown
      (sym same, sym f.upper.pairs ∙ sym same, f.sound.few_edges)

  pub ends_read : (edge low high : ℕ) → edge < length graph.edges → low ≡ get_or table.lows.items edge low → high ≡ get_or table.highs.items edge high
      → slice_get graph.edges edge ≡ Some (record { low = low; high = high })
  ends_read edge low high below low_read high_read =
      let long = edges_read in
      let in_lows : edge < length table.lows.items = omega (arith, long.0, below) in
      let in_highs : edge < length table.highs.items = omega (arith, long.1, below) in
      let there = paired_at table.lows.items table.highs.items edge in_lows in_highs in
      let at_low : get_or table.lows.items edge 0 ≡ low = sym (get_or_read table.lows.items edge low in_lows low_read 0) in
      let at_high : get_or table.highs.items edge 0 ≡ high = sym (get_or_read table.highs.items edge high in_highs high_read 0) in
      subst (λ (v : ChordalValue). slice_get v.edges edge ≡ Some (record { low = low; high = high })) shown
      (subst (λ x. slice_get (edges_in table) edge ≡ Some (record { low = x; high = high })) at_low
      (subst (λ y. slice_get (edges_in table) edge ≡ Some (record { low = get_or table.lows.items edge 0; high = y })) at_high there))

  pub sound_read : IsChordal graph
  sound_read = subst IsChordal shown f.sound

  pub numbers_read : (rank first : ℕ) → rank < graph.ranks → first ≡ first_edge_of graph.edges rank → NumbersEdges graph.edges rank first
  numbers_read rank first below count i high e =
      subst (λ n. slice_get graph.edges (n + i) ≡ Some (record { low = rank; high = high })) (sym count) (numbered graph.edges rank i high sound_read.rising e)

  pub up_read : (rank : ℕ) (part : List ℕ) → part ≡ up_of (edges_in table) rank → part ≡ up_of graph.edges rank
  up_read rank part e = e ∙ ap (λ (v : ChordalValue). up_of v.edges rank) shown

  within_ranks : (rank : ℕ) → rank < graph.ranks → rank < ranks
  within_ranks rank below = subst (λ (v : ChordalValue). rank < v.ranks) (sym shown) below

  pub rank_there : (rank : ℕ) → rank < graph.ranks → (rank + 1 < length table.starts.items) × (rank < length lower)
  rank_there rank below =
      let lt = within_ranks rank below in
      (omega (arith, lt, f.upper.groups.long), omega (arith, lt, f.down.long))

  pub down_read : (rank : ℕ) (part : List ℕ) → rank < graph.ranks → slice_get lower rank ≡ Some part → part ≡ down_of graph.edges rank
  down_read rank part below at =
      subst (λ (v : ChordalValue). part ≡ down_of v.edges rank) shown (same_Some part _ (sym at ∙ f.down.each rank (within_ranks rank below)))

  -- the first edge of a rank is read among the starts, and those behind it are few
  module _ (rank first : ℕ) (below : rank < graph.ranks) (read : first ≡ get_or table.starts.items rank first) where
    first_at : (first ≡ first_edge_of graph.edges rank) × (first + length (up_of graph.edges rank) ≤ MAX_EDGES)
    first_at =
        let lt = within_ranks rank below in
        let groups = f.upper.groups in
        let first_read : first ≡ get_or table.starts.items rank 0 = get_or_read table.starts.items rank first (omega (arith, lt, groups.long)) read 0 in
        let rising = groups.rising rank lt in
        let within = groups.within (rank + 1) (omega (arith, lt)) in
        let part = ap length (sym (groups.part rank lt)) ∙ length-between table.highs.items (get_or table.starts.items rank 0) (get_or table.starts.items (rank + 1) 0) within in
        let long = edges_read in
        subst (λ (v : ChordalValue). (first ≡ first_edge_of v.edges rank) × (first + length (up_of v.edges rank) ≤ MAX_EDGES)) shown
        (first_read ∙ f.upper.first rank (omega (arith, lt)), omega (arith, first_read, rising, within, part, long.1, long.2))

    pub first_count : first ≡ first_edge_of graph.edges rank
    first_count = first_at.0

    pub first_few : first + length (up_of graph.edges rank) ≤ MAX_EDGES
    first_few = first_at.1

pub up_increasing : (graph : ChordalValue) → IsChordal graph → (rank : ℕ) → IsStrictlyIncreasing (up_of graph.edges rank)
up_increasing graph f rank = increasing_from_pairs (up_of graph.edges rank) (up_rising graph.edges rank f.rising)

place_of_edge : (edges : List Ends) (k : ℕ) (e : Ends) → slice_get edges k ≡ Some e → (k < length edges) × (get_or edges k e ≡ e)
place_of_edge edges k e at = (slice_get_within edges k e at, get_or_from_slice_get edges k e e at)

pub highs_below : (ranks : ℕ) (table : EdgeTable) → length table.lows.items ≡ length table.highs.items → IsChordal (graph_in ranks table) → All (λ y. y < ranks) table.highs.items
highs_below ranks table pairs f k d h =
    let at = paired_at table.lows.items table.highs.items k (omega (arith, pairs, h)) h in
    let place = place_of_edge (edges_in table) k _ at in
    let range = f.in_range k (record { low = get_or table.lows.items k 0; high = get_or table.highs.items k 0 }) (place.0) in
    let high : get_or table.highs.items k 0 < ranks = (subst (λ (e : Ends). (e.low < e.high) × (e.high < ranks)) place.1 range).1 in
    let same = get_or_default table.highs.items k d 0 h in
    omega (arith, high, same)

finds : (xs : List ℕ) (x : ℕ) (r : Result ℕ ℕ) → IsStrictlyIncreasing xs
    → MatchResult r (λ i. (i < length xs) × (get_or xs i 0 ≡ x)) (λ i. (i ≤ length xs) × ((k : ℕ) → k < i → get_or xs k 0 < x) × ((k : ℕ) → i ≤ k → k < length xs → x < get_or xs k 0))
    → FindsIndex xs x (result_ok r)
finds xs x (Ok i) f m = slice_get-get_or xs i 0 m.0 ∙ ap Some m.1
finds xs x (Err i) f m = λ c.
    let at : get_or xs c.0 0 ≡ x = get_or_default xs c.0 0 x c.1 ∙ c.2 in
    elim (cases_lt c.0 i) [
      | inl less ↦ let low = m.1 c.0 less in omega (arith, low, at)
      | inr least ↦ let high = m.2 c.0 least c.1 in omega (arith, high, at)
    ]

up_to : (xs : List ℕ) → IsStrictlyIncreasing xs → (i j : ℕ) → i ≤ j → j < length xs → get_or xs i 0 ≤ get_or xs j 0
up_to xs f i j le h =
    elim (cases_eq i j) [
      | inl same ↦ subst (λ k. get_or xs i 0 ≤ get_or xs k 0) same (omega arith)
      | inr other ↦ let lt = AllPairs-from_increasing xs f i j 0 (omega (arith, le, other)) h in omega (arith, lt)
    ]

-- what a binary search finds
pub finds_index : (xs : List ℕ) (x : ℕ) (r : Result ℕ ℕ) (o : Option ℕ) → IsStrictlyIncreasing xs → IsBinarySearchResult (λ y. nat_cmp y x) xs r → o ≡ result_ok r → FindsIndex xs x o
finds_index xs x r o f found e = subst (FindsIndex xs x) (sym e) (finds xs x r f (searched xs x r found (λ i j le h. up_to xs f i j le h)))

-- an index among the higher neighbours gives the edge
pub edge_found : (graph : ChordalValue) (low high first index : ℕ) → NumbersEdges graph.edges low first → (up : List ℕ) → up ≡ up_of graph.edges low
    → FindsIndex up high (Some index) → FindsEdge graph.edges low high (Some (first + index))
edge_found graph low high first index numbers up same found = numbers index high (subst (λ xs. slice_get xs index ≡ Some high) same found)

pub edge_missed : (graph : ChordalValue) (low high : ℕ) (up : List ℕ) → up ≡ up_of graph.edges low → FindsIndex up high None → FindsEdge graph.edges low high None
edge_missed graph low high up same none = λ edge. none (subst (λ xs. Contains xs high) (sym same) (up_of_from_edge graph.edges low high edge))

-- what is asked where the lower neighbours are grouped
pub lower_asks : (ranks : ℕ) (table : EdgeTable) (keys : List ℕ) → keys ≡ table.highs.items → IsTable ranks table → IsChordal (graph_in ranks table)
    → (length keys ≤ MAX_EDGES) × All (λ key. key < ranks) keys
lower_asks ranks table keys same f sound =
    let long : length (edges_in table) ≡ length table.lows.items = length_paired table.lows.items table.highs.items f.pairs in
    (omega (arith, ap length same, f.pairs, long, sound.few_edges), subst (All (λ key. key < ranks)) (sym same) (highs_below ranks table f.pairs sound))

pub lower_listed : (ranks : ℕ) (table : EdgeTable) (keys values : List ℕ) (groups : List (List ℕ)) → keys ≡ table.highs.items
    → values ≡ table.lows.items → AreGroups keys values ranks groups → AreLower ranks (edges_in table) groups
lower_listed ranks table keys values groups at_keys at_values f = record {
  long = f.long;
  each = λ rank lt.
      f.each rank lt ∙ ap (λ xs. Some (group_of xs values rank)) at_keys ∙ ap (λ xs. Some (group_of table.highs.items xs rank)) at_values
      ∙ ap Some (down_grouped table.lows.items table.highs.items rank);
}

-- the neighbours of a rank
pub up_members : (edges : List Ends) (rank : ℕ) (part : List ℕ) → part ≡ up_of edges rank → (y : ℕ) → Contains part y ↔ HasEdge edges rank y
up_members edges rank part same y = subst (λ xs. Contains xs y ↔ HasEdge edges rank y) (sym same) (edge_from_up_of edges rank y, up_of_from_edge edges rank y)

pub down_members : (edges : List Ends) (rank : ℕ) (part : List ℕ) → part ≡ down_of edges rank → (x : ℕ) → Contains part x ↔ HasEdge edges x rank
down_members edges rank part same x = subst (λ xs. Contains xs x ↔ HasEdge edges x rank) (sym same) (edge_from_down_of edges rank x, down_of_from_edge edges rank x)

pub down_increasing : (graph : ChordalValue) → IsChordal graph → (rank : ℕ) → IsStrictlyIncreasing (down_of graph.edges rank)
down_increasing graph f rank = increasing_from_pairs (down_of graph.edges rank) (down_rising graph.edges rank f.rising)

pub index_small : (xs : List ℕ) (up : List ℕ) (first x index : ℕ) → up ≡ xs → first + length xs ≤ MAX_EDGES → FindsIndex up x (Some index) → first + index < MAX_EDGES
index_small xs up first x index same few found = let within = slice_get_within up index x found in let long = ap length same in omega (arith, within, long, few)
