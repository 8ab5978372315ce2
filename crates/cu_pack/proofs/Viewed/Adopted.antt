-- The edges of a file in which no rank's edges are wrong.
use Rattle.std.proofs.Common.{◌≡◌, ◌≤◌, ◌+◌, ◌-◌, ◌∙◌, ℕ, zero, suc, List, [], ◌∷◌, None, length, get_or, map, refl, sym, ap, subst, arith, inl, inr}
use Rattle.std.specs.Prelude.{slice_range}
use Rattle.std.proofs.lemmas.List.{map-append, take_all}
use Rattle.cu_model.specs.Networks.{NetworkValue}
use Rattle.cu_model.specs.Orders.{OrderValue}
use Rattle.cu_chordal.specs.declared.graph.Ends.{Ends}
use Rattle.cu_chordal.specs.Edges.{ListsEdges}
use Rattle.cu_chordal.specs.Graphs.{IsChordal, first_edge_of}
use Rattle.cu_chordal.specs.Lists.{edges_below, edges_of_lists, edges_to, part_at}
use Rattle.cu_chordal.specs.WrongParts.{IsFirstWrong, IsWrongPart}
use Rattle.cu_chordal.proofs.Adopted.{edges_counted, held_chordal, held_parts}
use Rattle.cu_chordal.proofs.Claims.{AreAdopted, adopted}
use Rattle.cu_chordal.proofs.Listed.{AreLaid, fewer_laid, first_below}
use Rattle.cu_pack.specs.Checks.{IsGraph}
use Rattle.cu_pack.specs.Layouts.{edge_starts_at, uppers_at}
use Rattle.cu_pack.specs.Reading.{counts_in, edge_start, edge_starts_in, network_in, order_in, uppers_in}
use Rattle.cu_pack.proofs.Read.Driven.{nodes_same}
use Rattle.cu_pack.proofs.Spelled.Ordered.{ordered, shorts_at, shorts_count}
use Rattle.cu_pack.proofs.Numbering.Slices.{no_part, part_then}

-- the higher ends of the edges to these, and of all edges
highs_to : (rank : ℕ) (ys : List ℕ) → map (λ (ends : Ends). ends.high) (edges_to rank ys) ≡ ys
highs_to rank [] = refl
highs_to rank (y ∷ ys) = ap (λ zs. y ∷ zs) (highs_to rank ys)

starts_later : (starts uppers : List ℕ) (ranks : ℕ) → AreLaid starts uppers ranks → get_or starts 0 0 ≤ get_or starts ranks 0
starts_later starts uppers ranks f = omega (arith, f.first)

highs_below : (starts uppers : List ℕ) (ranks : ℕ) → AreLaid starts uppers ranks
    → map (λ (ends : Ends). ends.high) (edges_below starts uppers ranks) ≡ slice_range uppers (get_or starts 0 0) (get_or starts ranks 0)
highs_below starts uppers zero f = no_part uppers (get_or starts 0 0) (get_or starts 0 0) refl
highs_below starts uppers (suc rank) f =
    let high : Ends → ℕ = λ ends. ends.high in
    let before = fewer_laid starts uppers rank (suc rank) (omega arith) f in
    let here = f.laid rank (omega arith) in
    let next : rank + 1 ≡ suc rank = omega arith in
    let end : get_or starts (rank + 1) 0 ≡ get_or starts (suc rank) 0 = ap (λ k. get_or starts k 0) next in
    let own : map high (edges_to rank (part_at starts uppers rank)) ≡ slice_range uppers (get_or starts rank 0) (get_or starts (suc rank) 0) = highs_to rank (part_at starts uppers rank)
    ∙ ap (slice_range uppers (get_or starts rank 0)) end in
    map-append high (edges_below starts uppers rank) (edges_to rank (part_at starts uppers rank))
    ∙ part_then uppers (get_or starts 0 0) (get_or starts rank 0) (get_or starts (suc rank) 0) (map high (edges_below starts uppers rank)) (map high (edges_to rank (part_at starts uppers rank)))
    (starts_later starts uppers rank before) (omega (arith, here.0, end)) (highs_below starts uppers rank before) own

-- no rank is wrong past the number behind the ranks
pub wrong_within : (g : NetworkValue) (o : OrderValue) (starts uppers : List ℕ) (rank : ℕ) → IsWrongPart g o starts uppers rank → rank ≤ g.nodes
wrong_within g o starts uppers rank (inl first) = let none = first.0 in omega (arith, none)
wrong_within g o starts uppers rank (inr (inl middle)) = let below = middle.0 in omega (arith, below)
wrong_within g o starts uppers rank (inr (inr last)) = let same = last.0 in omega (arith, same)

-- what is known of a file's edges
pub record AreEdges (bytes : List ℕ) (edges : List Ends) : Type 0 where
  pub listed : ListsEdges (network_in bytes) (order_in bytes) edges
  pub chordal : IsChordal (record { ranks = (counts_in bytes).nodes; edges = edges })
  pub count : length edges ≡ (counts_in bytes).edges
  pub highs : map (λ (ends : Ends). ends.high) edges ≡ uppers_in bytes
  pub firsts : (rank : ℕ) → rank ≤ (counts_in bytes).nodes → first_edge_of edges rank ≡ edge_start bytes rank

-- how long the columns are
module _ (bytes : List ℕ) where
  pub order_long : length (order_in bytes).node_at ≡ (network_in bytes).nodes
  unfolding network_in order_in
  order_long = shorts_count bytes 52 (counts_in bytes).nodes

  pub starts_long : length (edge_starts_in bytes) ≡ (counts_in bytes).nodes + 1
  starts_long = let long = shorts_count bytes (edge_starts_at (counts_in bytes)) (suc (counts_in bytes).nodes) in omega (arith, long)

  pub uppers_long : length (uppers_in bytes) ≡ (counts_in bytes).edges
  uppers_long = shorts_count bytes (uppers_at (counts_in bytes)) (counts_in bytes).edges

module _ (bytes : List ℕ) (f : IsGraph bytes) where
  none_wrong : IsFirstWrong (network_in bytes) (order_in bytes) (edge_starts_in bytes) (uppers_in bytes) None
  none_wrong rank wrong =
      let within = wrong_within (network_in bytes) (order_in bytes) (edge_starts_in bytes) (uppers_in bytes) rank wrong in
      f.ranks rank (omega (arith, within, nodes_same bytes)) wrong

  edges_adopted : AreAdopted (network_in bytes) (order_in bytes) (edge_starts_in bytes) (uppers_in bytes)
  edges_adopted =
      let order = f.roads.joined.ordered in
      let limits = order.sized.limited.limits in
      adopted (network_in bytes) (order_in bytes) (edge_starts_in bytes) (uppers_in bytes) (ordered bytes order.ranks limits.nodes) (order_long bytes)
      (omega (arith, starts_long bytes, nodes_same bytes)) (omega (arith, uppers_long bytes, limits.edges)) none_wrong

  laid : AreLaid (edge_starts_in bytes) (uppers_in bytes) (counts_in bytes).nodes
  laid = (held_parts (edge_starts_in bytes) (uppers_in bytes) (counts_in bytes).nodes (starts_long bytes) edges_adopted.held).laid

  counted : edges_below (edge_starts_in bytes) (uppers_in bytes) (counts_in bytes).nodes ≡ edges_of_lists (edge_starts_in bytes) (uppers_in bytes)
  counted = edges_counted (edge_starts_in bytes) (uppers_in bytes) (counts_in bytes).nodes (starts_long bytes)

  all_highs : map (λ (ends : Ends). ends.high) (edges_of_lists (edge_starts_in bytes) (uppers_in bytes)) ≡ uppers_in bytes
  all_highs =
      let starts : List ℕ = edge_starts_in bytes in
      let uppers : List ℕ = uppers_in bytes in
      let nodes : ℕ = (counts_in bytes).nodes in
      let last : nodes ≡ length starts - 1 = omega (arith, starts_long bytes) in
      let end : get_or starts nodes 0 ≡ length uppers = ap (λ k. get_or starts k 0) last ∙ edges_adopted.held.whole in
      let first = laid.first in
      ap (map (λ (ends : Ends). ends.high)) (sym counted) ∙ highs_below starts uppers nodes laid
      ∙ ap (λ k. slice_range uppers k (get_or starts nodes 0)) first ∙ take_all (get_or starts nodes 0 - 0) uppers (omega (arith, end))

  all_firsts : (rank : ℕ) → rank ≤ (counts_in bytes).nodes → first_edge_of (edges_of_lists (edge_starts_in bytes) (uppers_in bytes)) rank ≡ edge_start bytes rank
  all_firsts rank within =
      let nodes : ℕ = (counts_in bytes).nodes in
      ap (λ es. first_edge_of es rank) (sym counted) ∙ first_below (edge_starts_in bytes) (uppers_in bytes) nodes rank laid within
      ∙ shorts_at bytes (edge_starts_at (counts_in bytes)) (suc nodes) rank 0 (omega (arith, within))

  pub edges_known : AreEdges bytes (edges_of_lists (edge_starts_in bytes) (uppers_in bytes))
  edges_known = record {
    listed = edges_adopted.closure.edges;
    chordal = subst (λ es. IsChordal (record { ranks = (counts_in bytes).nodes; edges = es })) counted
        (held_chordal (edge_starts_in bytes) (uppers_in bytes) (counts_in bytes).nodes (starts_long bytes) edges_adopted.held);
    count = edges_adopted.count ∙ uppers_long bytes;
    highs = all_highs;
    firsts = all_firsts;
  }
