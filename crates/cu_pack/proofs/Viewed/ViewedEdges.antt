-- The order and the edges of a hierarchy, by the sections of its packed file.
use Rattle.std.proofs.Common.{◌≡◌, ◌≤◌, ◌<◌, ◌+◌, ◌∙◌, ℕ, zero, suc, List, [], ◌∷◌, Some, length, get_or, sym, ap, arith, inl, inr}
use Rattle.std.specs.Prelude.{nat_lt, slice_get}
use Rattle.std.specs.List.{Contains}
use Rattle.std.proofs.lemmas.Bool.{cases_lt}
use Rattle.std.proofs.lemmas.Bool.Decides.{nat_tests}
use Rattle.std.proofs.lemmas.List.{get_or_default}
use Rattle.std.proofs.lemmas.Option.{get_or_from_slice_get, same_Some, slice_get-get_or, slice_get_within}
use Rattle.cu_model.proofs.RoadLaws.{all_at}
use Rattle.cu_chordal.specs.declared.graph.Ends.{Ends}
use Rattle.cu_chordal.specs.Graphs.{ComesBefore, IsRising, first_edge_of, one_if}
use Rattle.cu_chordal.proofs.Members.{pairs_tail}
use Rattle.cu_chordal.proofs.Tables.{after_first, first_none}
use Rattle.cu_interval.specs.Hierarchies.{HierarchyValue}
use Rattle.cu_pack.specs.Steps.Fronts.{SpellsSections}
use Rattle.cu_pack.specs.Reading.{edge_start, node_at_in, rank_of_in, upper_in}
use Rattle.cu_pack.specs.Steps.Parts.{IsLowOf, StartsRise}
use Rattle.cu_pack.proofs.Read.ReadBack.{nowhere}
use Rattle.cu_pack.proofs.Viewed.Views.{edge_start_known, node_known, nodes_known, rank_known, upper_known}

abbrev edge_of : ℕ → ℕ → Ends
edge_of low high = record { low = low; high = high }

-- no more edges are before a rank than before a later one
one_later : (e : Ends) (i j before after : ℕ) → i ≤ j → before ≤ after → one_if (nat_lt e.low i) + before ≤ one_if (nat_lt e.low j) + after
one_later e i j before after order rest = grind (arith, nat_tests)

first_later : (edges : List Ends) (i j : ℕ) → i ≤ j → first_edge_of edges i ≤ first_edge_of edges j
first_later [] i j order = omega arith
first_later (e ∷ es) i j order = one_later e i j (first_edge_of es i) (first_edge_of es j) order (first_later es i j order)

not_before : (e : Ends) (r before : ℕ) → r ≤ e.low → one_if (nat_lt e.low r) + before ≡ before
not_before e r before least = grind (arith, nat_tests)

one_before : (e : Ends) (r before : ℕ) → e.low < r → one_if (nat_lt e.low r) + before ≡ before + 1
one_before e r before less = grind (arith, nat_tests)

one_at_most : (e : Ends) (r before : ℕ) → one_if (nat_lt e.low r) + before ≤ before + 1
one_at_most e r before = grind (arith, nat_tests)

low_order : (e x : Ends) → ComesBefore e x → e.low ≤ x.low
low_order e x (inl less) = omega (arith, less)
low_order e x (inr both) = let same = both.0 in omega (arith, same)

-- an edge is before a rank where its lower end is
low_counted : (edges : List Ends) → IsRising edges → (k r : ℕ) (e : Ends) → slice_get edges k ≡ Some e
    → (r ≤ e.low → first_edge_of edges r ≤ k) × (e.low < r → k < first_edge_of edges r)
low_counted [] rising k r e there = absurd (cc there)
low_counted (x ∷ es) rising zero r e there =
    let same : x ≡ e = same_Some x e there in
    let low : x.low ≡ e.low = ap (λ (y : Ends). y.low) same in (
      (λ least.
          let none = first_none es r (λ i d lt.
          let order = low_order x (get_or es i d) (after_first x es rising (get_or es i d) (i, lt, get_or_default es i (get_or es i d) d lt)) in
          omega (arith, order, least, low)) in
          let here = not_before x r (first_edge_of es r) (omega (arith, least, low)) in
          omega (arith, none, here)),
      (λ less. let here = one_before x r (first_edge_of es r) (omega (arith, less, low)) in omega (arith, here)),
    )
low_counted (x ∷ es) rising (suc k) r e there =
    let rest = low_counted es (pairs_tail ComesBefore x es rising) k r e there in
    let member : Contains es e = (k, slice_get_within es k e there, get_or_from_slice_get es k e e there) in
    let order = low_order x e (after_first x es rising e member) in (
      (λ least. let few = rest.0 least in let here = one_at_most x r (first_edge_of es r) in omega (arith, few, here)),
      (λ less. let many = rest.1 less in let here = one_before x r (first_edge_of es r) (omega (arith, less, order)) in omega (arith, many, here)),
    )

module _ (bytes : List ℕ) (h : HierarchyValue) (f : SpellsSections bytes h) where
  -- ranks and nodes are within their number
  pub rank_inside : (node : ℕ) → node < h.network.nodes → rank_of_in bytes node < h.network.nodes
  rank_inside node inside =
      let within = slice_get_within h.order.node_at (rank_of_in bytes node) node (f.sound.order.placed node (rank_of_in bytes node) (rank_known bytes h f node inside)) in
      omega (arith, within, f.sound.same)

  pub node_inside : (rank : ℕ) → rank < h.network.nodes → node_at_in bytes rank < h.network.nodes
  node_inside rank inside =
      let within = slice_get_within h.order.rank_of (node_at_in bytes rank) rank (f.sound.order.ranked rank (node_at_in bytes rank) (node_known bytes h f rank inside)) in
      omega (arith, within, f.sound.same, f.sound.order.same)

  edge_range : (edge : ℕ) (ends : Ends) → slice_get h.edges edge ≡ Some ends → (ends.low < ends.high) × (ends.high < h.network.nodes)
  edge_range edge ends there = all_at (λ (e : Ends). (e.low < e.high) × (e.high < h.network.nodes)) h.edges edge ends f.sound.graph.in_range there

  -- the edges between two starts have the rank between them as their lower end
  low_is : (edge low : ℕ) (ends : Ends) → slice_get h.edges edge ≡ Some ends → low < h.network.nodes → edge_start bytes low ≤ edge → edge < edge_start bytes (suc low) → ends.low ≡ low
  low_is edge low ends there inside from until =
      let first = edge_start_known bytes h f low (omega (arith, inside)) in
      let next = edge_start_known bytes h f (suc low) (omega (arith, inside)) in
      let here = low_counted h.edges f.sound.graph.rising edge low ends there in
      let behind = low_counted h.edges f.sound.graph.rising edge (suc low) ends there in
      elim (cases_lt ends.low low) [
        | inl less ↦ let many = here.1 less in absurd (omega (arith, many, first, from))
        | inr least ↦ elim (cases_lt low ends.low) [
          | inl above ↦ let few = behind.0 (omega (arith, above)) in absurd (omega (arith, few, next, until))
          | inr most ↦ omega (arith, least, most)
        ]
      ]

  -- where each rank's edges start
  pub starts_rise : (edge : ℕ) → edge < length h.edges → StartsRise bytes
  starts_rise edge inside =
      let range = edge_range edge (get_or h.edges edge nowhere) (slice_get-get_or h.edges edge nowhere inside) in
      let nodes = nodes_known bytes h f in
      record {
        some = omega (arith, range.1, nodes);
        first = edge_start_known bytes h f 0 (omega arith) ∙ first_none h.edges 0 (λ k d lt. omega arith);
        rising = λ i j less lt.
            let one = edge_start_known bytes h f i (omega (arith, less, lt, nodes)) in
            let two = edge_start_known bytes h f j (omega (arith, lt, nodes)) in
            let order = first_later h.edges i j (omega (arith, less)) in
            omega (arith, one, two, order);
      }

  -- an edge by its lower and its higher rank
  pub ends_known : (edge low : ℕ) → edge < length h.edges → IsLowOf bytes edge low → slice_get h.edges edge ≡ Some (record { low = low; high = upper_in bytes edge })
  ends_known edge low inside found =
      let ends = get_or h.edges edge nowhere in
      let there : slice_get h.edges edge ≡ Some ends = slice_get-get_or h.edges edge nowhere inside in
      let nodes = nodes_known bytes h f in
      let range = edge_range edge ends there in
      let low_same : ends.low ≡ low = elim (cases_lt (suc low) h.network.nodes) [
        | inl more ↦ low_is edge low ends there (omega (arith, found.inside, nodes)) found.begun (found.last (omega (arith, more, nodes)))
        | inr last ↦
            let first = edge_start_known bytes h f low (omega (arith, found.inside, nodes)) in
            let here = low_counted h.edges f.sound.graph.rising edge low ends there in
            elim (cases_lt ends.low low) [
              | inl less ↦ let many = here.1 less in absurd (omega (arith, many, first, found.begun))
              | inr least ↦ omega (arith, least, last, range.0, range.1)
            ]
      ] in
      let high_same : ends.high ≡ upper_in bytes edge = sym (upper_known bytes h f edge ends there) in
      there ∙ ap (λ (n : ℕ). Some (edge_of n ends.high)) low_same ∙ ap (λ (n : ℕ). Some (edge_of low n)) high_same
