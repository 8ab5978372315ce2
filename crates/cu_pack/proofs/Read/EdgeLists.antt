-- The edges of a hierarchy are those of two lists: where each rank's edges start, and the higher end of each edge.
use Rattle.std.proofs.Common.{◌≡◌, ◌≤◌, ◌<◌, ◌+◌, ◌-◌, ◌∙◌, ℕ, suc, List, Some, None, length, get_or, drop, map, refl, sym, ap, subst, arith, inl, inr}
use Rattle.std.specs.Prelude.{slice_get, slice_range}
use Rattle.std.specs.Option.{option_map}
use Rattle.std.proofs.lemmas.List.{ext_get_or, get_or-drop, get_or-take, length-map}
use Rattle.std.proofs.lemmas.List.Edits.{length-between}
use Rattle.std.proofs.lemmas.List.FromFn.{get_or-map-range_with_len, length-map-range_with_len}
use Rattle.std.proofs.lemmas.Option.{get_or_from_slice_get, slice_get-get_or, slice_get-map}
use Rattle.cu_chordal.specs.declared.graph.Ends.{Ends}
use Rattle.cu_chordal.specs.Graphs.{IsRising, first_edge_of, up_of}
use Rattle.cu_chordal.specs.Lists.{HoldGraph, edges_of_lists, part_at}
use Rattle.cu_chordal.specs.WrongParts.{AreHigherNeighbours, IsFirstWrong, IsWrongPart}
use Rattle.cu_chordal.proofs.Claims.{AreAdopted, adopted}
use Rattle.cu_chordal.proofs.Layouts.{up_increasing, up_members}
use Rattle.cu_chordal.proofs.Tables.{first_all, first_next, first_none, numbered}
use Rattle.cu_chordal.proofs.Unique.{closure_unique}
use Rattle.cu_interval.specs.Hierarchies.{HierarchyValue, IsHierarchy, graph_of}
use Rattle.cu_pack.specs.Spelling.{edge_starts}
use Rattle.cu_pack.proofs.Read.ReadBack.{first_edge_within}

abbrev pub highs : List Ends → List ℕ
highs edges = map (λ (ends : Ends). ends.high) edges

module _ (edges : List Ends) (rank : ℕ) (rising : IsRising edges) where
  up_there : (i y : ℕ) → slice_get (up_of edges rank) i ≡ Some y → get_or (highs edges) (first_edge_of edges rank + i) 0 ≡ y
  up_there i y there =
      let place = first_edge_of edges rank + i in
      let high : Ends → ℕ = λ ends. ends.high in
      get_or_from_slice_get (highs edges) place y 0 (slice_get-map high edges place ∙ ap (option_map high) (numbered edges rank i y rising there))

  -- they are its higher neighbours
  up_again : slice_range (highs edges) (first_edge_of edges rank) (first_edge_of edges (rank + 1)) ≡ up_of edges rank
  up_again =
      let start = first_edge_of edges rank in
      let end = first_edge_of edges (rank + 1) in
      let uppers = highs edges in
      let up = up_of edges rank in
      let many = length-map edges (λ (ends : Ends). ends.high) in
      let more = first_next edges rank in
      let within = first_edge_within edges (rank + 1) in
      let long = length-between uppers start end (omega (arith, many, within)) in
      ext_get_or 0 (slice_range uppers start end) up (omega (arith, long, more)) (λ i lt.
      let inside : i < length up = omega (arith, lt, long, more) in
      get_or-take (end - start) (drop start uppers) i 0 (omega (arith, lt, long)) ∙ get_or-drop start uppers i 0 ∙ up_there i (get_or up i 0) (slice_get-get_or up i 0 inside))

module _ (h : HierarchyValue) (f : IsHierarchy h) where
  start_there : (rank : ℕ) → rank ≤ h.network.nodes → get_or (edge_starts h) rank 0 ≡ first_edge_of h.edges rank
  start_there rank within = get_or-map-range_with_len (first_edge_of h.edges) 0 (suc h.network.nodes) rank rank 0 (omega (arith, within)) (omega arith)

  part_again : (rank : ℕ) → rank < h.network.nodes → part_at (edge_starts h) (highs h.edges) rank ≡ up_of h.edges rank
  part_again rank inside =
      let one = start_there rank (omega (arith, inside)) in
      let two = start_there (rank + 1) (omega (arith, inside)) in
      ap (λ (n : ℕ). slice_range (highs h.edges) n (get_or (edge_starts h) (rank + 1) 0)) one
      ∙ ap (slice_range (highs h.edges) (first_edge_of h.edges rank)) two ∙ up_again h.edges rank f.graph.rising

  neighbours : (rank : ℕ) → rank < h.network.nodes → AreHigherNeighbours h.network h.order rank (part_at (edge_starts h) (highs h.edges) rank)
  neighbours rank inside = subst (AreHigherNeighbours h.network h.order rank) (sym (part_again rank inside)) (record {
    rising = up_increasing (graph_of h) f.graph rank;
    exact = λ y.
        let members = up_members h.edges rank (up_of h.edges rank) refl y in
        let joined = f.edges.exact rank y in
        ((λ c. joined.0 (members.0 c)), (λ e. members.1 (joined.1 e)));
  })

  none_before : first_edge_of h.edges 0 ≡ 0
  none_before = first_none h.edges 0 (λ k d lt. omega arith)

  all_before : first_edge_of h.edges h.network.nodes ≡ length h.edges
  all_before = first_all h.edges h.network.nodes (λ k d lt. let range = f.graph.in_range k d lt in omega (arith, range.0, range.1))

  -- no rank's edges are wrong
  pub none_wrong : (rank : ℕ) → IsWrongPart h.network h.order (edge_starts h) (highs h.edges) rank → ⊥
  none_wrong rank (inl (same, other)) = other (start_there 0 (omega arith) ∙ none_before)
  none_wrong rank (inr (inl (inside, inl falls))) =
      let one = start_there rank (omega (arith, inside)) in
      let two = start_there (rank + 1) (omega (arith, inside)) in
      let more = first_next h.edges rank in
      omega (arith, falls, one, two, more)
  none_wrong rank (inr (inl (inside, inr (inl past)))) =
      let two = start_there (rank + 1) (omega (arith, inside)) in
      let within = first_edge_within h.edges (rank + 1) in
      let many = length-map h.edges (λ (ends : Ends). ends.high) in
      omega (arith, past, two, within, many)
  none_wrong rank (inr (inl (inside, inr (inr off)))) = off (neighbours rank inside)
  none_wrong rank (inr (inr (same, other))) =
      let many = length-map h.edges (λ (ends : Ends). ends.high) in
      other (start_there rank (omega (arith, same)) ∙ ap (first_edge_of h.edges) same ∙ all_before ∙ sym many)

  known : AreAdopted h.network h.order (edge_starts h) (highs h.edges)
  known =
      let count = length-map-range_with_len (first_edge_of h.edges) 0 (suc h.network.nodes) in
      let many = length-map h.edges (λ (ends : Ends). ends.high) in
      let none : IsFirstWrong h.network h.order (edge_starts h) (highs h.edges) None = none_wrong in
      adopted h.network h.order (edge_starts h) (highs h.edges) f.order f.same (omega (arith, count)) (omega (arith, many, f.graph.few_edges)) none

  -- the lists hold a graph
  pub edges_held : HoldGraph (edge_starts h) (highs h.edges)
  edges_held = known.held

  -- and so they are the hierarchy's
  pub edges_again : edges_of_lists (edge_starts h) (highs h.edges) ≡ h.edges
  edges_again = closure_unique h.network h.order (edges_of_lists (edge_starts h) (highs h.edges)) h.edges known.closure.edges f.edges
