-- Two tables of which the second has the place of each number of the first are an order.
use Rattle.std.proofs.Common.{◌≡◌, ◌≤◌, ◌<◌, ◌+◌, ◌*◌, ◌∙◌, ℕ, List, length, get_or, sym, ap, arith, inl, inr}
use Rattle.std.proofs.lemmas.Bool.Decides.{Decides-eqb}
use Rattle.std.proofs.lemmas.List.FromFn.{get_or-map-range_with_len, length-map-range_with_len}
use Rattle.std.proofs.lemmas.Map.Made.{IsDistinct-from_AllPairs}
use Rattle.cu_model.specs.declared.limits.TheConstants.{MAX_NODES}
use Rattle.cu_model.specs.Orders.{IsOrder, ListsEachNodeOnce}
use Rattle.cu_model.proofs.OrderLaws.{order_from_places}
use Rattle.cu_pack.specs.Checks.{IsWrongRank, NoneWrong}
use Rattle.cu_pack.specs.Places.{short_at}
use Rattle.cu_pack.specs.Reading.{counts_in, node_at_in, order_in, rank_of_in, shorts_in}
use Rattle.cu_pack.specs.Layouts.{rank_of_at}
use Rattle.cu_pack.proofs.Numbering.Unrefuted.{less_else, same_unrefuted}

-- how many numbers are read, and each of them
pub shorts_count : (bytes : List ℕ) (at count : ℕ) → length (shorts_in bytes at count) ≡ count
shorts_count bytes at count = length-map-range_with_len (λ k. short_at bytes (at + 4 * k)) 0 count

pub shorts_at : (bytes : List ℕ) (at count k d : ℕ) → k < count → get_or (shorts_in bytes at count) k d ≡ short_at bytes (at + 4 * k)
shorts_at bytes at count k d inside = get_or-map-range_with_len (λ (j : ℕ). short_at bytes (at + 4 * j)) 0 count k k d inside (omega arith)

module _ (bytes : List ℕ) (none : NoneWrong (IsWrongRank bytes) (counts_in bytes).nodes) (few : (counts_in bytes).nodes ≤ MAX_NODES) where
  -- each rank has a node, which has this rank; so no node is twice
  node_inside : (rank : ℕ) → rank < (counts_in bytes).nodes → node_at_in bytes rank < (counts_in bytes).nodes
  node_inside rank lt = less_else (node_at_in bytes rank) (counts_in bytes).nodes (λ wrong. none rank lt (inl wrong))

  ranked : (rank : ℕ) → rank < (counts_in bytes).nodes → rank_of_in bytes (node_at_in bytes rank) ≡ rank
  ranked rank lt = same_unrefuted (rank_of_in bytes (node_at_in bytes rank)) rank (λ other. none rank lt (inr other))

  pub nodes_once : ListsEachNodeOnce (shorts_in bytes 52 (counts_in bytes).nodes)
  nodes_once =
      let nodes : ℕ = (counts_in bytes).nodes in
      let long = shorts_count bytes 52 nodes in
      record {
        few = omega (arith, long, few);
        in_range = λ k d h.
            let lt : k < nodes = omega (arith, long, h) in
            let there = shorts_at bytes 52 nodes k d lt in
            let inside = node_inside k lt in
            omega (arith, there, inside, long);
        once = IsDistinct-from_AllPairs Decides-eqb (shorts_in bytes 52 nodes) (λ i j d lt h e.
            let second : j < nodes = omega (arith, long, h) in
            let first : i < nodes = omega (arith, lt, second) in
            let same : node_at_in bytes i ≡ node_at_in bytes j = sym (shorts_at bytes 52 nodes i d first) ∙ e ∙ shorts_at bytes 52 nodes j d second in
            let one = ranked i first in
            let two = ranked j second in
            let ranks : rank_of_in bytes (node_at_in bytes i) ≡ rank_of_in bytes (node_at_in bytes j) = ap (rank_of_in bytes) same in
            absurd (omega (arith, one, two, ranks, lt)));
      }

  -- the order that the bytes say
  pub ordered : IsOrder (order_in bytes)
  unfolding order_in
  ordered =
      let nodes : ℕ = (counts_in bytes).nodes in
      let ats : List ℕ = shorts_in bytes 52 nodes in
      let places : List ℕ = shorts_in bytes (rank_of_at (counts_in bytes)) nodes in
      let long = shorts_count bytes 52 nodes in
      let same = shorts_count bytes (rank_of_at (counts_in bytes)) nodes in
      order_from_places ats places nodes_once (omega (arith, long, same)) (λ r h.
      let lt : r < nodes = omega (arith, h, long) in
      let node : get_or ats r 0 ≡ node_at_in bytes r = shorts_at bytes 52 nodes r 0 lt in
      ap (λ k. get_or places k 0) node ∙ shorts_at bytes (rank_of_at (counts_in bytes)) nodes (node_at_in bytes r) 0 (node_inside r lt) ∙ ranked r lt)
