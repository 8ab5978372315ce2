-- Lists that hold a chordal graph.
use Rattle.std.proofs.Common.{◌≡◌, ◌<◌, ◌+◌, ◌-◌, ℕ, List, length, sym, ◌∙◌, ap, subst, arith}
use Rattle.std.specs.Prelude.{Some, slice_get}
use Rattle.std.proofs.lemmas.Option.{slice_get_within}
use Rattle.cu_chordal.specs.declared.graph.Ends.{Ends}
use Rattle.cu_chordal.specs.declared.table.EdgeTable.{EdgeTable}
use Rattle.cu_chordal.specs.Graphs.{IsChordal, first_edge_of, up_of}
use Rattle.cu_chordal.specs.Lists.{HoldGraph, edges_below, edges_of_lists}
use Rattle.cu_chordal.specs.Steps.Closing.{AreClosed}
use Rattle.cu_chordal.specs.Steps.Flat.{IsTable, edges_in, graph_in}
use Rattle.cu_chordal.specs.Steps.Listing.{AreLows}
use Rattle.cu_chordal.proofs.Closed.{low_in_range}
use Rattle.cu_chordal.proofs.Listed.{ArePartsOf, closed_below, edge_from_entry, entry_from_edge, fewer_laid, first_below, lists_laid, start_most, up_below}

pub held_parts : (starts uppers : List ℕ) (ranks : ℕ) → length starts ≡ ranks + 1 → HoldGraph starts uppers → ArePartsOf starts uppers ranks ranks
held_parts starts uppers ranks count f = record {
  few = f.few_edges;
  laid = lists_laid starts uppers ranks count f.first f.starts_rise f.whole;
  rising = λ k lt. f.parts_rise k (omega (arith, lt, count));
  range = λ k y lt c. let r = f.higher k y (omega (arith, lt, count)) c in (r.0, omega (arith, r.1, count));
}

-- the edges of all ranks, by their number
pub edges_counted : (starts uppers : List ℕ) (ranks : ℕ) → length starts ≡ ranks + 1 → edges_below starts uppers ranks ≡ edges_of_lists starts uppers
edges_counted starts uppers ranks count = let same : ranks ≡ length starts - 1 = omega (arith, count) in ap (edges_below starts uppers) same

-- the arrays of a graph
pub held_table : (ranks : ℕ) (table : EdgeTable) → length table.starts.items ≡ ranks + 1 → HoldGraph table.starts.items table.highs.items
    → AreLows table.starts.items table.highs.items table.lows.items → IsTable ranks table
held_table ranks table count f lows =
    let starts : List ℕ = table.starts.items in
    let uppers : List ℕ = table.highs.items in
    let parts : ArePartsOf starts uppers ranks ranks = held_parts starts uppers ranks count f in
    let same : edges_below starts uppers ranks ≡ edges_in table = edges_counted starts uppers ranks count ∙ sym lows.edges in
    record {
      pairs = lows.long;
      first = λ rank le. sym (first_below starts uppers ranks rank parts.laid le) ∙ ap (λ es. first_edge_of es rank) same;
      groups = record {
        long = count;
        rising = λ key lt. (parts.laid.laid key lt).0;
        within = λ key le. start_most starts uppers key (fewer_laid starts uppers key ranks le parts.laid);
        part = λ key lt. sym (up_below starts uppers ranks key lt) ∙ ap (λ es. up_of es key) same;
      };
    }

pub held_chordal : (starts uppers : List ℕ) (ranks : ℕ) → length starts ≡ ranks + 1 → HoldGraph starts uppers
    → IsChordal (record { ranks = ranks; edges = edges_below starts uppers ranks })
held_chordal starts uppers ranks count f =
    let edges : List Ends = edges_below starts uppers ranks in
    let closed : AreClosed edges ranks ranks = closed_below starts uppers ranks ranks (held_parts starts uppers ranks count f) in
    record {
      few_ranks = omega (arith, f.few_ranks, count);
      few_edges = closed.few;
      rising = closed.rising;
      in_range = λ k d h. let r = closed.in_range k d h in (r.1, r.2);
      chordal = λ r x y c e lt.
          let low : r < ranks = low_in_range edges ranks r x closed c in
          let to_x = entry_from_edge starts uppers ranks r x low c in
          let to_y = entry_from_edge starts uppers ranks r y low e in
          let range = f.higher r x (omega (arith, low, count)) to_x in
          edge_from_entry starts uppers ranks x y (omega (arith, range.1, count)) (f.joined r x y (omega (arith, low, count)) to_x to_y lt);
    }

-- the same with the arrays
pub held_sound : (ranks : ℕ) (table : EdgeTable) → length table.starts.items ≡ ranks + 1 → HoldGraph table.starts.items table.highs.items
    → AreLows table.starts.items table.highs.items table.lows.items → IsChordal (graph_in ranks table)
held_sound ranks table count f lows =
    subst (λ es. IsChordal (record { ranks = ranks; edges = es })) (edges_counted table.starts.items table.highs.items ranks count ∙ sym lows.edges)
    (held_chordal table.starts.items table.highs.items ranks count f)

-- the same with what is handed over
pub counted : (starts : List ℕ) (count : ℕ) → count ≡ length starts → slice_get starts 0 ≡ Some 0 → length starts ≡ (count - 1) + 1
counted starts count same first = let some = slice_get_within starts 0 0 first in omega (arith, same, some)

pub lows_given : (starts uppers given_starts given_uppers lows : List ℕ) → given_starts ≡ starts → given_uppers ≡ uppers → AreLows given_starts given_uppers lows → AreLows starts uppers lows
lows_given starts uppers given_starts given_uppers lows starts_same uppers_same f =
    subst (λ xs. AreLows xs uppers lows) starts_same (subst (λ xs. AreLows given_starts xs lows) uppers_same f)
