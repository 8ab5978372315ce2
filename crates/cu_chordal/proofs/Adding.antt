-- The closure before and after a rank.
use Rattle.std.proofs.Common.{◌≡◌, ◌≤◌, ◌<◌, ◌+◌, ℕ, zero, suc, List, [], ◌∷◌, ◌++◌, Option, Some, None, eqb, length, get_or, replicate, sym, ◌∙◌, ap, subst, arith, inl, inr, nat_cmp, min}
use Rattle.std.specs.Prelude.{All, slice_get}
use Rattle.std.specs.List.{Contains, AllPairs, IsDistinct}
use Rattle.std.specs.List.Sorted.{IsStrictlyIncreasing, IsPermutation, IsSorted}
use Rattle.std.proofs.lemmas.List.{length-replicate, get_or-replicate}
use Rattle.std.proofs.lemmas.List.Elements.{All-replicate, All-contains}
use Rattle.std.proofs.lemmas.List.Kept.{AllPairs-from_increasing}
use Rattle.std.proofs.lemmas.List.Sorted.{Contains-permutation, IsPermutation-sym, IsNonDecreasingBy-from_sort, length_permutation}
use Rattle.std.proofs.lemmas.Map.Keys.{IsDistinct-IsPermutation, IsStrictlyIncreasing-from_distinct}
use Rattle.std.proofs.lemmas.Option.{get_or_from_slice_get, slice_get_within}
use Rattle.cu_model.specs.Networks.{NetworkValue}
use Rattle.cu_model.specs.Orders.{OrderValue, IsOrder}
use Rattle.cu_chordal.specs.declared.graph.Ends.{Ends}
use Rattle.cu_chordal.specs.declared.closure.Children.{Children}
use Rattle.cu_chordal.specs.declared.closure.Closing.{Closing}
use Rattle.cu_chordal.specs.declared.table.EdgeTable.{EdgeTable}
use Rattle.cu_chordal.specs.Graphs.{IsChordal, first_edge_of}
use Rattle.cu_chordal.specs.Edges.{IsEdge, IsClosureOf, PathBelow}
use Rattle.cu_chordal.specs.Steps.Closing.{AddsRank, Appends, AreClosed, AreChildren, HandsOn, IsBefore, IsLatestChild, IsReady, IsSource, ListsSources}
use Rattle.cu_chordal.specs.Lists.{edges_to}
use Rattle.cu_chordal.specs.Steps.Flat.{IsTable, edges_in, graph_in, paired}
use Rattle.cu_chordal.specs.Steps.Links.{AreLinks}
use Rattle.cu_chordal.proofs.Members.{all_from_members, flips}
use Rattle.cu_chordal.proofs.Tables.{edge_from_up_of, length_paired}
use Rattle.cu_chordal.proofs.Steps.{children_more, closed_more, table_more}
use Rattle.cu_chordal.proofs.Closed.{AreUps, parent_least, ups_more, closure_all, chordal_all}
use Rattle.cu_chordal.specs.declared.graph.TheConstants.{MAX_EDGES}
use Rattle.cu_chordal.proofs.Linked.{adjacent_in_range}

pub sorted_part : (gathered part : List ℕ) → IsDistinct eqb gathered → IsPermutation gathered part → IsSorted nat_cmp part → IsStrictlyIncreasing part
sorted_part gathered part once moved sorted = IsStrictlyIncreasing-from_distinct part (IsNonDecreasingBy-from_sort (λ (x : ℕ). x) part sorted)
    (IsDistinct-IsPermutation eqb flips gathered part moved once)

pub source_range : (edges : List Ends) (links : List ℕ) (ranks rank y : ℕ) → AreClosed edges ranks rank → All (λ z. (rank ≤ z) × (z < ranks)) links
    → IsSource edges links rank y → (rank < y) × (y < ranks)
source_range edges links ranks rank y f linked (ne, inl c) = let both = All-contains (λ z. (rank ≤ z) × (z < ranks)) links y linked c in (omega (arith, both.0, ne), both.1)
source_range edges links ranks rank y f linked (ne, inr child) =
    let least = parent_least edges child.0 rank y f.rising child.2 child.3 in
    let edge = edge_from_up_of edges child.0 y child.3 in
    let range = f.in_range edge.0 (record { low = child.0; high = y }) edge.1 in
    (omega (arith, least, ne), (subst (λ (e : Ends). (e.low < rank) × (e.low < e.high) × (e.high < ranks)) edge.2 range).2)

-- what was gathered, sorted
pub record IsPart (edges : List Ends) (links : List ℕ) (ranks rank : ℕ) (part : List ℕ) : Type 0 where
  pub rising : AllPairs (λ x y. x < y) part
  pub exact : ListsSources edges links rank part
  pub range : (y : ℕ) → Contains part y → (rank < y) × (y < ranks)
  pub few : length edges + length part ≤ MAX_EDGES

pub part_sorted : (ranks rank : ℕ) (closing : Closing) (links gathered part : List ℕ) → IsReady ranks rank closing → All (λ z. (rank ≤ z) × (z < ranks)) links
    → ListsSources (edges_in closing.table) links rank gathered → IsDistinct eqb gathered
    → length closing.table.lows.items + length gathered ≤ MAX_EDGES → IsPermutation gathered part → IsSorted nat_cmp part
    → IsPart (edges_in closing.table) links ranks rank part
part_sorted ranks rank closing links gathered part f linked exact once few moved sorted =
    let back = IsPermutation-sym gathered part moved in
    let long = length_permutation gathered part moved in
    let edges_long = length_paired closing.table.lows.items closing.table.highs.items f.layout.pairs in
    record {
      rising = AllPairs-from_increasing part (sorted_part gathered part once moved sorted);
      exact = λ y. ((λ c. (exact y).0 (Contains-permutation part gathered y back c)), (λ s. Contains-permutation gathered part y moved ((exact y).1 s)));
      range = λ y c. source_range (edges_in closing.table) links ranks rank y f.edges linked ((exact y).0 (Contains-permutation part gathered y back c));
      few = omega (arith, long, edges_long, few);
    }

pub part_in_range : (edges : List Ends) (links : List ℕ) (ranks rank n : ℕ) (part given : List ℕ) → IsPart edges links ranks rank part → given ≡ part → n ≡ ranks → All (λ y. y < n) given
part_in_range edges links ranks rank n part given f same at =
    subst (All (λ y. y < n)) (sym same) (all_from_members (λ y. y < n) part (λ y c. let r = f.range y c in omega (arith, r.1, at)))

-- one more rank
grown_table : (rank ranks : ℕ) (table table_new : EdgeTable) (part appended : List ℕ) → IsTable rank table → AreClosed (edges_in table) ranks rank
    → appended ≡ part → Appends rank appended table table_new
    → IsTable (rank + 1) table_new × (edges_in table_new ≡ edges_in table ++ edges_to rank part)
grown_table rank ranks table table_new part appended layout edges same adds = table_more ranks rank table table_new part layout edges (subst (λ xs. Appends rank xs table table_new) same adds)

pub part_added : (links : List ℕ) (rank ranks : ℕ) (table table_new : EdgeTable) (part appended : List ℕ) → IsTable rank table
    → AreClosed (edges_in table) ranks rank → IsPart (edges_in table) links ranks rank part → appended ≡ part
    → Appends rank appended table table_new → AddsRank links rank (edges_in table) (edges_in table_new)
part_added links rank ranks table table_new part appended layout edges p same adds = (part, (grown_table rank ranks table table_new part appended layout edges same adds).1, p.exact)

pub before_more : (ranks rank : ℕ) (closing : Closing) (table_new : EdgeTable) (children_new : Children) (links part appended handed stamps_new : List ℕ)
    → rank < ranks → IsReady ranks rank closing → IsPart (edges_in closing.table) links ranks rank part → appended ≡ part → handed ≡ part
    → Appends rank appended closing.table table_new → HandsOn rank (slice_get handed 0) closing.children children_new → length stamps_new ≡ ranks → All (λ stamp. stamp ≤ rank + 1) stamps_new
    → IsBefore ranks (rank + 1) table_new children_new stamps_new
before_more ranks rank closing table_new children_new links part appended handed stamps_new below f p same_appended same_handed adds hands marks low =
    let edges : List Ends = edges_in closing.table in
    let more = grown_table rank ranks closing.table table_new part appended f.layout f.edges same_appended adds in
    let closed = closed_more edges ranks rank part f.edges p.rising p.range p.few in
    let hands_part = subst (λ xs. HandsOn rank (slice_get xs 0) closing.children children_new) same_handed hands in
    let handed_on = children_more edges ranks rank part closing.children children_new below p.range f.edges f.handed hands_part in
    record {
      layout = more.0;
      edges = subst (λ es. AreClosed es ranks (rank + 1)) (sym more.1) closed;
      handed = subst (λ es. AreChildren es ranks (rank + 1) children_new) (sym more.1) handed_on;
      marks = marks;
      low = low;
    }

zero_at : (xs : List ℕ) → xs ≡ 0 ∷ [] → (k : ℕ) → k ≤ 0 → get_or xs k 0 ≡ 0
zero_at xs e zero le = ap (λ ys. get_or ys 0 0) e
zero_at xs e (suc k) le = absurd (omega (arith, le))

-- no rank yet
no_table : (ranks : ℕ) (table : EdgeTable) → table.lows.items ≡ [] → table.highs.items ≡ [] → table.starts.items ≡ 0 ∷ [] → (edges_in table ≡ []) × IsTable 0 table
no_table ranks table lows_is highs_is starts_is =
    let none : edges_in table ≡ [] = ap (λ xs. paired xs table.highs.items) lows_is in (
      none,
      record {
        pairs = ap length lows_is ∙ sym (ap length highs_is);
        first = λ k le. zero_at table.starts.items starts_is k le ∙ sym (ap (λ es. first_edge_of es k) none);
        groups = record {
          long = ap length starts_is;
          rising = λ k lt. absurd (omega (arith, lt));
          within = λ k le. let at = zero_at table.starts.items starts_is k le in omega (arith, at);
          part = λ k lt. absurd (omega (arith, lt));
        };
      },
    )

no_children : (edges : List Ends) (ranks : ℕ) (children : Children) → children.latest.items ≡ replicate ranks None → children.before.items ≡ replicate ranks None → AreChildren edges ranks 0 children
no_children edges ranks children latest_is before_is = record {
  latest_long = ap length latest_is ∙ length-replicate ranks None;
  before_long = ap length before_is ∙ length-replicate ranks None;
  begin = λ parent o le e.
      let there : slice_get (replicate ranks None) parent ≡ Some o = ap (λ xs. slice_get xs parent) (sym latest_is) ∙ e in
      let inside : parent < ranks = omega (arith, slice_get_within (replicate ranks None) parent o there, length-replicate {A = Option ℕ} ranks None) in
      let read : None ≡ o = sym (get_or-replicate ranks parent None None inside) ∙ get_or_from_slice_get (replicate ranks None) parent o None there in
      subst (IsLatestChild edges parent 0) read (λ k lt. absurd (omega (arith, lt)));
  onward = λ k parent o lt. absurd (omega (arith, lt));
}

pub before_none : (ranks : ℕ) (table : EdgeTable) (children : Children) (stamps : List ℕ) → table.lows.items ≡ [] → table.highs.items ≡ [] → table.starts.items ≡ 0 ∷ []
    → children.latest.items ≡ replicate ranks None → children.before.items ≡ replicate ranks None → stamps ≡ replicate ranks 0 → IsBefore ranks 0 table children stamps
before_none ranks table children stamps lows_is highs_is starts_is latest_is before_is stamps_is =
    let none = no_table ranks table lows_is highs_is starts_is in
    record {
      layout = none.1;
      edges = subst (λ es. AreClosed es ranks 0) (sym none.0) (record { few = omega arith; rising = λ i j d lt h. absurd (omega (arith, h)); in_range = λ k d h. absurd (omega (arith, h)) });
      handed = no_children (edges_in table) ranks children latest_is before_is;
      marks = ap length stamps_is ∙ length-replicate ranks 0;
      low = subst (All (λ stamp. stamp ≤ 0)) (sym stamps_is) (All-replicate (λ stamp. stamp ≤ 0) ranks 0 (omega arith));
    }

-- the closure of a network, before a rank
pub record IsClosing (g : NetworkValue) (o : OrderValue) (ranks rank : ℕ) (closing : Closing) : Type 0 where
  pub ready : IsReady ranks rank closing
  pub ups : AreUps g o rank (edges_in closing.table)

module _ (g : NetworkValue) (o : OrderValue) where
  pub closing_none : (ranks : ℕ) (closing : Closing) → IsReady ranks 0 closing → IsClosing g o ranks 0 closing
  closing_none ranks closing f = record { ready = f; ups = λ x y lt. absurd (omega (arith, lt)) }

  pub closing_more : (ranks rank : ℕ) (old new : Closing) (links : List ℕ) → IsClosing g o ranks rank old → AreLinks g o rank links
      → IsReady (length old.stamps.items) (rank + 1) new → AddsRank links rank (edges_in old.table) (edges_in new.table) → IsClosing g o ranks (rank + 1) new
  closing_more ranks rank old new links f linked ready added = record {
    ready = subst (λ n. IsReady n (rank + 1) new) f.ready.marks ready;
    ups = ups_more g o (edges_in old.table) (edges_in new.table) links ranks rank f.ready.edges f.ups linked.exact added;
  }

  -- what is asked of a rank's links
  pub links_asked : (ranks rank : ℕ) (closing : Closing) (links : List ℕ) → ranks ≡ g.nodes → IsClosing g o ranks rank closing → AreLinks g o rank links
      → All (λ y. (rank ≤ y) × (y < length closing.stamps.items)) links
  links_asked ranks rank closing links at f linked k d h = let r = linked.in_range k d h in (r.0, omega (arith, r.1, at, f.ready.marks))

  pub joined_in_range : IsOrder o → length o.node_at ≡ g.nodes → (m x : ℕ) (zs : List ℕ) (y : ℕ) → PathBelow g o m x zs y → x < g.nodes
  joined_in_range f long m x [] y p = adjacent_in_range g o x y f long p
  joined_in_range f long m x (z ∷ zs) y p = adjacent_in_range g o x z f long p.0

  pub edge_in_range : IsOrder o → length o.node_at ≡ g.nodes → (x y : ℕ) → IsEdge g o x y → x < g.nodes
  edge_in_range f long x y e = joined_in_range f long (min x y) x e.1.0 y e.1.1

  -- when all ranks were added
  pub closing_all : (ranks rank : ℕ) (closing : Closing) → IsOrder o → length o.node_at ≡ g.nodes → ranks ≡ g.nodes → rank ≡ ranks → IsClosing g o ranks rank closing
      → IsTable ranks closing.table × IsChordal (graph_in ranks closing.table) × IsClosureOf g o (graph_in ranks closing.table)
  closing_all ranks rank closing ordered long at last f =
      let edges : List Ends = edges_in closing.table in
      let closed : AreClosed edges ranks ranks = subst (AreClosed edges ranks) last f.ready.edges in
      let ups : AreUps g o ranks edges = subst (λ k. AreUps g o k edges) last f.ups in (
        subst (λ k. IsTable k closing.table) last f.ready.layout,
        chordal_all g o edges ranks (omega (arith, at, long, ordered.few)) closed ups,
        record { ranks = at; edges = closure_all g o edges (subst (λ k. AreClosed edges k k) at closed) (subst (λ k. AreUps g o k edges) at ups) (edge_in_range ordered long) },
      )
