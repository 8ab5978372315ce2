-- Where there are more edges than the limit.
use Rattle.std.proofs.Common.{◌≡◌, ◌≢◌, ◌<◌, ℕ, List, [], ◌∷◌, ◌++◌, length, sym, ◌∙◌, ap, subst, arith, inl, inr}
use Rattle.std.specs.List.{Contains, AllPairs}
use Rattle.std.proofs.lemmas.List.{length-append}
use Rattle.std.proofs.lemmas.List.Elements.{Contains-append_cases}
use Rattle.std.proofs.lemmas.List.Kept.{AllPairs-cons}
use Rattle.cu_model.specs.Networks.{NetworkValue}
use Rattle.cu_model.specs.Orders.{OrderValue}
use Rattle.cu_chordal.specs.declared.graph.Ends.{Ends}
use Rattle.cu_chordal.specs.Graphs.{IsRising}
use Rattle.cu_chordal.specs.Edges.{HasTooManyEdges, IsEdge}
use Rattle.cu_chordal.specs.Steps.Closing.{AreClosed, IsCrowded, IsReady}
use Rattle.cu_chordal.specs.Lists.{edges_to}
use Rattle.cu_chordal.specs.Steps.Flat.{edges_in}
use Rattle.cu_chordal.specs.Steps.Links.{AreLinks}
use Rattle.cu_chordal.specs.declared.closure.Closing.{Closing}
use Rattle.cu_chordal.proofs.Members.{pairs_append, pairs_tail, pairs_head}
use Rattle.cu_chordal.proofs.Tables.{length_paired, member_edges_to, length_edges_to, lows_of_edges_to}
use Rattle.cu_chordal.proofs.Joined.{IsUp, edge_from_up}
use Rattle.cu_chordal.proofs.Closed.{AreUps, source_up}

rising_differ : (edges : List Ends) → IsRising edges → AllPairs (λ (a b : Ends). a ≢ b) edges
rising_differ edges f i j d lt h e =
    elim (f i j d lt h) [
      | inl less ↦ let low = ap (λ (x : Ends). x.low) e in omega (arith, less, low)
      | inr both ↦ let high = ap (λ (x : Ends). x.high) e in omega (arith, both.1, high)
    ]

head_differs : (y : ℕ) (found : List ℕ) (z : ℕ) → AllPairs (λ x y. x ≢ y) (y ∷ found) → Contains found z → y ≢ z
head_differs y found z f c e = pairs_head (λ x y. x ≢ y) y found f c.0 z c.1 (e ∙ sym c.2)

edges_to_differ : (rank : ℕ) (found : List ℕ) → AllPairs (λ x y. x ≢ y) found → AllPairs (λ (a b : Ends). a ≢ b) (edges_to rank found)
edges_to_differ rank [] f = λ i j d lt h. absurd (omega (arith, h))
edges_to_differ rank (y ∷ found) f =
    AllPairs-cons (λ (a b : Ends). a ≢ b) _ (edges_to rank found)
    (lows_of_edges_to rank found (λ (b : Ends). record { low = rank; high = y } ≢ b) (λ z c e. head_differs y found z f c (ap (λ (x : Ends). x.high) e)))
    (edges_to_differ rank found (pairs_tail (λ x y. x ≢ y) y found f))

member_range : (edges : List Ends) (ranks rank : ℕ) (e : Ends) → AreClosed edges ranks rank → Contains edges e → (e.low < rank) × (e.low < e.high) × (e.high < ranks)
member_range edges ranks rank e f c = subst (λ (x : Ends). (x.low < rank) × (x.low < x.high) × (x.high < ranks)) c.2 (f.in_range c.0 e c.1)

pub too_many_edges : (g : NetworkValue) (o : OrderValue) (ranks rank : ℕ) (closing : Closing) (links : List ℕ) → IsReady ranks rank closing
    → AreUps g o rank (edges_in closing.table) → AreLinks g o rank links
    → IsCrowded closing.table links rank → HasTooManyEdges g o
too_many_edges g o ranks rank closing links ready ups linked more =
    let edges : List Ends = edges_in closing.table in
    let closed : AreClosed edges ranks rank = ready.edges in
    let edges_long : length edges ≡ length closing.table.lows.items = length_paired closing.table.lows.items closing.table.highs.items ready.layout.pairs in
    let found : List ℕ = more.0 in
    let long = length-append edges (edges_to rank found) in
    let count = length_edges_to rank found in
    record {
      edges = edges ++ edges_to rank found;
      many = omega (arith, long, count, more.2, edges_long);
      differ = pairs_append (λ (a b : Ends). a ≢ b) edges (edges_to rank found) (rising_differ edges closed.rising) (edges_to_differ rank found more.1)
          (λ a b c e same.
          let low : a.low < rank = (member_range edges ranks rank a closed c).0 in
          let at = (member_edges_to rank found b e).0 in
          let lows = ap (λ (x : Ends). x.low) same in
          omega (arith, low, at, lows));
      real = λ e c. elim (Contains-append_cases edges (edges_to rank found) e c) [
        | inl old ↦
            let up : IsUp g o e.low e.high = (ups e.low e.high (member_range edges ranks rank e closed old).0).0 old in
            (up.0, edge_from_up g o e.low e.high up)
        | inr own ↦
            let at = member_edges_to rank found e own in
            let up : IsUp g o rank e.high = (source_up g o edges links rank e.high closed.rising ups linked.exact).0 (more.3 e.high at.1) in
            let same : rank ≡ e.low = sym at.0 in
            subst (λ k. (k < e.high) × IsEdge g o k e.high) same (up.0, edge_from_up g o rank e.high up)
      ];
    }
