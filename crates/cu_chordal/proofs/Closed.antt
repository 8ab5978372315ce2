-- The edges of the closure are the chordal edges.
use Rattle.std.proofs.Common.{◌≡◌, ◌≤◌, ◌<◌, ◌+◌, ℕ, zero, suc, List, [], ◌∷◌, ◌++◌, Some, length, get_or, sym, ap, subst, arith, inl, inr}
use Rattle.std.specs.Prelude.{◌↔◌}
use Rattle.std.specs.List.{Contains, AllPairs}
use Rattle.std.proofs.lemmas.Bool.{cases_eq}
use Rattle.std.proofs.lemmas.List.{get_or_default}
use Rattle.std.proofs.lemmas.List.Elements.{Contains-append_left, Contains-append_right, Contains-append_cases}
use Rattle.std.proofs.lemmas.Option.{slice_get-get_or, get_or_from_slice_get}
use Rattle.cu_model.specs.declared.limits.TheConstants.{MAX_NODES}
use Rattle.cu_model.specs.Networks.{NetworkValue}
use Rattle.cu_model.specs.Orders.{OrderValue}
use Rattle.cu_chordal.specs.declared.graph.Ends.{Ends}
use Rattle.cu_chordal.specs.Graphs.{IsChordal, IsRising, HasEdge, parent_of, up_of}
use Rattle.cu_chordal.specs.Edges.{Adjacent, IsEdge, ListsEdges}
use Rattle.cu_chordal.specs.Steps.Closing.{AddsRank, AreClosed, IsSource}
use Rattle.cu_chordal.specs.Lists.{edges_to}
use Rattle.cu_chordal.proofs.Members.{there, member_at, none_in_nil, place_of}
use Rattle.cu_chordal.proofs.Tables.{member_edges_to, edge_from_up_of, up_of_from_edge, up_rising}
use Rattle.cu_chordal.proofs.Joined.{IsUp, HasParents, edge_from_up, from_link_or_child, up_from_child, up_from_edge}

-- the edges of the ranks below this one are the chordal edges that rise from these
abbrev pub AreUps : NetworkValue → OrderValue → ℕ → List Ends → Type 0
AreUps g o rank edges = (x y : ℕ) → x < rank → HasEdge edges x y ↔ IsUp g o x y

pub member_edge_to : (rank y : ℕ) (part : List ℕ) → Contains part y → HasEdge (edges_to rank part) rank y
member_edge_to rank y [] c = absurd (none_in_nil y c)
member_edge_to rank y (z ∷ part) (zero, h, e) = (zero, omega arith, ap (λ (k : ℕ). record { low = rank; high = k }) e)
member_edge_to rank y (z ∷ part) (suc k, h, e) = there _ (edges_to rank part) _ (member_edge_to rank y part (k, omega (arith, h), e))

first_least : (xs : List ℕ) (z : ℕ) → AllPairs (λ x y. x < y) xs → Contains xs z → get_or xs 0 0 ≤ z
first_least xs z f (zero, h, e) = let same = get_or_default xs 0 0 z h in omega (arith, same, e)
first_least xs z f (suc k, h, e) = let less = f 0 (suc k) 0 (omega arith) h in let same = get_or_default xs (suc k) 0 z h in omega (arith, less, same, e)

-- the parents are as the parent law asks
parents_least : (g : NetworkValue) (o : OrderValue) (edges : List Ends) (rank : ℕ) → IsRising edges → AreUps g o rank edges → HasParents g o (parent_of edges) rank
parents_least g o edges rank rising f k z lt up =
    let edge : HasEdge edges k z = (f k z lt).1 up in
    let member : Contains (up_of edges k) z = up_of_from_edge edges k z edge in
    let place = place_of (up_of edges k) z member in
    let first : ℕ = get_or (up_of edges k) 0 0 in
    let some : 0 < length (up_of edges k) = omega (arith, member.1) in
    let is_parent : parent_of edges k ≡ Some first = slice_get-get_or (up_of edges k) 0 0 some in
    let first_up : IsUp g o k first = (f k first lt).0 (edge_from_up_of edges k first (member_at (up_of edges k) first 0 is_parent)) in
    (first, is_parent, first_up, first_least (up_of edges k) z (up_rising edges k rising) member)

pub parent_least : (edges : List Ends) (k rank y : ℕ) → IsRising edges → parent_of edges k ≡ Some rank → Contains (up_of edges k) y → rank ≤ y
parent_least edges k rank y rising p c =
    let least = first_least (up_of edges k) y (up_rising edges k rising) c in
    let read = get_or_from_slice_get (up_of edges k) 0 rank 0 p in
    omega (arith, least, read)

module _ (g : NetworkValue) (o : OrderValue) (edges : List Ends) (links : List ℕ) (rank y : ℕ) (rising : IsRising edges) (f : AreUps g o rank edges)
    (linked : ((z : ℕ) → Contains links z ↔ ((rank ≤ z) × Adjacent g o rank z))) where
  source_is_up : IsSource edges links rank y → IsUp g o rank y
  source_is_up (ne, inl c) = let both = (linked y).0 c in (omega (arith, both.0, ne), ([], both.1))
  source_is_up (ne, inr child) =
      let up_y : IsUp g o child.0 y = (f child.0 y child.1).0 (edge_from_up_of edges child.0 y child.3) in
      let up_rank : IsUp g o child.0 rank = (f child.0 rank child.1).0 (edge_from_up_of edges child.0 rank (member_at (up_of edges child.0) rank 0 child.2)) in
      let least : rank ≤ y = parent_least edges child.0 rank y rising child.2 child.3 in
      up_from_child g o child.0 rank y up_rank up_y (omega (arith, least, ne))

  up_is_source : IsUp g o rank y → IsSource edges links rank y
  up_is_source up =
      elim (from_link_or_child g o (parent_of edges) rank y (parents_least g o edges rank rising f) up.0 up.1) [
        | inl next ↦ ((λ e. omega (arith, e, up.0)), inl ((linked y).1 (omega (arith, up.0), next)))
        | inr child ↦ ((λ e. omega (arith, e, up.0)), inr (child.0, child.1, child.2, up_of_from_edge edges child.0 y ((f child.0 y child.1).1 child.3)))
      ]

  -- what a rank's higher neighbours are gathered from is what they are
  pub source_up : IsSource edges links rank y ↔ IsUp g o rank y
  source_up = (source_is_up, up_is_source)

pub not_before : (edges : List Ends) (ranks rank y : ℕ) → AreClosed edges ranks rank → HasEdge edges rank y → ⊥
not_before edges ranks rank y f c =
    let range = f.in_range c.0 (record { low = rank; high = y }) c.1 in
    let low = (subst (λ (e : Ends). (e.low < rank) × (e.low < e.high) × (e.high < ranks)) c.2 range).0 in
    omega (arith, low)

-- one more rank
pub ups_more : (g : NetworkValue) (o : OrderValue) (edges edges_new : List Ends) (links : List ℕ) (ranks rank : ℕ) → AreClosed edges ranks rank
    → AreUps g o rank edges → ((z : ℕ) → Contains links z ↔ ((rank ≤ z) × Adjacent g o rank z))
    → AddsRank links rank edges edges_new → AreUps g o (rank + 1) edges_new
ups_more g o edges edges_new links ranks rank closed f linked added x y lt =
    subst (λ es. HasEdge es x y ↔ IsUp g o x y) (sym added.1)
    (elim (cases_eq x rank) [
      | inl same ↦
          subst (λ k. HasEdge (edges ++ edges_to rank added.0) k y ↔ IsUp g o k y) (sym same) (
            (λ c. elim (Contains-append_cases edges (edges_to rank added.0) _ c) [
              | inl old ↦ absurd (not_before edges ranks rank y closed old)
              | inr own ↦ (source_up g o edges links rank y closed.rising f linked).0 ((added.2 y).0 (member_edges_to rank added.0 _ own).1)
            ]),
            (λ up. Contains-append_right edges (edges_to rank added.0) _ (member_edge_to rank y added.0 ((added.2 y).1 ((source_up g o edges links rank y closed.rising f linked).1 up)))),
          )
      | inr other ↦
          let below : x < rank = omega (arith, lt, other) in (
            (λ c. elim (Contains-append_cases edges (edges_to rank added.0) _ c) [
              | inl old ↦ (f x y below).0 old
              | inr own ↦ absurd (other (member_edges_to rank added.0 _ own).0)
            ]),
            (λ up. Contains-append_left edges (edges_to rank added.0) _ ((f x y below).1 up)),
          )
    ])

pub low_in_range : (edges : List Ends) (ranks x y : ℕ) → AreClosed edges ranks ranks → HasEdge edges x y → x < ranks
low_in_range edges ranks x y f c =
    let range = f.in_range c.0 (record { low = x; high = y }) c.1 in
    (subst (λ (e : Ends). (e.low < ranks) × (e.low < e.high) × (e.high < ranks)) c.2 range).0

-- at the end they are the chordal edges
pub closure_all : (g : NetworkValue) (o : OrderValue) (edges : List Ends) → AreClosed edges g.nodes g.nodes → AreUps g o g.nodes edges
    → ((x y : ℕ) → IsEdge g o x y → x < g.nodes) → ListsEdges g o edges
closure_all g o edges closed f in_range = record {
  sorted = closed.rising;
  exact = λ x y. (
    (λ c. let up = (f x y (low_in_range edges g.nodes x y closed c)).0 c in (up.0, edge_from_up g o x y up)),
    (λ both. (f x y (in_range x y both.1)).1 (up_from_edge g o x y both.0 both.1)),
  );
}

pub chordal_all : (g : NetworkValue) (o : OrderValue) (edges : List Ends) (ranks : ℕ) → ranks ≤ MAX_NODES → AreClosed edges ranks ranks
    → AreUps g o ranks edges → IsChordal (record { ranks = ranks; edges = edges })
chordal_all g o edges ranks few f ups = record {
  few_ranks = few;
  few_edges = f.few;
  rising = f.rising;
  in_range = λ k d h. let r = f.in_range k d h in (r.1, r.2);
  chordal = λ r x y c e lt.
      let up_x = (ups r x (low_in_range edges ranks r x f c)).0 c in
      let up_y = (ups r y (low_in_range edges ranks r y f e)).0 e in
      let range = f.in_range c.0 (record { low = r; high = x }) c.1 in
      let high = (subst (λ (z : Ends). (z.low < ranks) × (z.low < z.high) × (z.high < ranks)) c.2 range).2 in
      (ups x y high).1 (up_from_child g o r x y up_x up_y lt);
}
