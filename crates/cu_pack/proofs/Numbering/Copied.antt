-- Lists that grow item by item to a list, and what they are the tables of.
use Rattle.std.proofs.Common.{◌≡◌, ◌-◌, ◌∙◌, ℕ, suc, List, Some, length, get_or, sym, ap, subst, arith}
use Rattle.std.specs.Prelude.{IfOk, Result, Ok, Err, slice_get}
use Rattle.std.proofs.lemmas.Bool.Decides.{Decides-eqb}
use Rattle.std.proofs.lemmas.List.FromFn.{length-map-range_with_len}
use Rattle.std.proofs.lemmas.Map.Made.{IsDistinct-from_AllPairs}
use Rattle.std.proofs.lemmas.Option.{same_Some, slice_get-get_or, slice_get_within}
use Rattle.cu_model.specs.Orders.{IsOrder, ListsEachNodeOnce, OrderValue}
use Rattle.cu_chordal.specs.declared.graph.Ends.{Ends}
use Rattle.cu_chordal.specs.Graphs.{ChordalValue, first_edge_of}
use Rattle.cu_chordal.specs.Lists.{HoldGraph, edges_of_lists}
use Rattle.cu_interval.specs.Hierarchies.{HierarchyValue, IsHierarchy, graph_of}
use Rattle.cu_pack.specs.Spelling.{edge_starts}
use Rattle.cu_pack.proofs.Read.EdgeLists.{edges_again, edges_held, highs}

-- two facts of what was answered give a third
pub both_ok : {T E : Type 0} (P Q R : T → Type 0) (answer : Result T E) → ((x : T) → P x → Q x → R x) → IfOk answer P → IfOk answer Q → IfOk answer R
both_ok P Q R (Ok x) on one two = on x one two
both_ok P Q R (Err e) on one two = tt

-- an order's list has each node once
pub order_once : (o : OrderValue) → IsOrder o → ListsEachNodeOnce o.node_at
order_once o f = record {
  few = f.few;
  in_range = λ k d h.
      let there = slice_get-get_or o.node_at k d h in
      let within = slice_get_within o.rank_of (get_or o.node_at k d) k (f.ranked k (get_or o.node_at k d) there) in
      omega (arith, within, f.same);
  once = IsDistinct-from_AllPairs Decides-eqb o.node_at (λ i j d less inside same.
      let one = f.ranked i (get_or o.node_at i d) (slice_get-get_or o.node_at i d (omega (arith, less, inside))) in
      let two = f.ranked j (get_or o.node_at j d) (slice_get-get_or o.node_at j d inside) in
      let ranks : Some i ≡ Some j = sym one ∙ ap (slice_get o.rank_of) same ∙ two in
      let rank : i ≡ j = same_Some i j ranks in
      absurd (omega (arith, rank, less)));
}

module _ (h : HierarchyValue) (f : IsHierarchy h) (starts uppers : List ℕ) (first : starts ≡ edge_starts h) (second : uppers ≡ highs h.edges) where
  -- the lists of a hierarchy's edges hold its graph
  pub lists_hold : HoldGraph starts uppers
  lists_hold = subst (λ (xs : List ℕ). HoldGraph xs uppers) (sym first) (subst (HoldGraph (edge_starts h)) (sym second) (edges_held h f))

  pub graph_same : (graph : ChordalValue) → graph.ranks ≡ length starts - 1 → graph.edges ≡ edges_of_lists starts uppers → graph ≡ graph_of h
  graph_same graph ranks edges =
      let of : ℕ → List Ends → ChordalValue = λ n es. record { ranks = n; edges = es } in
      let count = ap length first ∙ length-map-range_with_len (first_edge_of h.edges) 0 (suc h.network.nodes) in
      let nodes : graph.ranks ≡ h.network.nodes = omega (arith, ranks, count) in
      let all : graph.edges ≡ h.edges = edges ∙ ap (λ (xs : List ℕ). edges_of_lists xs uppers) first ∙ ap (edges_of_lists (edge_starts h)) second ∙ edges_again h f in
      ap (λ (n : ℕ). of n graph.edges) nodes ∙ ap (of h.network.nodes) all
