-- Ancestors in the chordal supergraph never cross from one side of a split to the other.
use Rattle.std.proofs.Common.{◌≡◌, ◌≤◌, ◌<◌, ◌+◌, ℕ, zero, suc, List, [], ◌∷◌, ◌++◌, Option, Some, None, length, length-append, get_or, refl, sym, ◌∙◌, ap, subst, arith, inl, inr, ◌⊎◌}
use Rattle.std.specs.Prelude.{slice_get}
use Rattle.std.specs.List.{Contains}
use Rattle.std.proofs.lemmas.List.{get_or-append-add, get_or_append_left}
use Rattle.std.proofs.lemmas.List.FromFn.{get_or-map-range_with_len, length-map-range_with_len}
use Rattle.std.proofs.lemmas.Option.{get_or_from_slice_get, same_Some, slice_get-get_or, slice_get_within}
use Rattle.cu_chordal.proofs.Joined.{IsUp, up_from_edge}
use Rattle.cu_chordal.proofs.Members.{member_at, member_cases, none_in_nil}
use Rattle.cu_chordal.proofs.Tables.{edge_from_up_of}
use Rattle.cu_chordal.specs.Edges.{Adjacent, IsClosureOf, PathBelow}
use Rattle.cu_chordal.specs.Graphs.{ChordalValue, HasEdge, parent_of, up_of}
use Rattle.cu_elimtree.specs.SweepArcs.{ancestors_in, parents_in}
use Rattle.cu_elimtree.specs.Trees.{climb, flat}
use Rattle.cu_elimtree.proofs.Climbing.{parent_there}
use Rattle.cu_model.specs.Networks.{NetworkValue}
use Rattle.cu_model.specs.Orders.{IsOrder, OrderValue}
use Rattle.cu_dissect.specs.Apart.{IsUnrelated}
use Rattle.cu_dissect.specs.Dissection.{SplitValue}
use Rattle.cu_dissect.proofs.Barred.{AreLinked, IsBarred, LeadsBack}

-- the rank of one of these nodes
abbrev IsRankIn : OrderValue → List ℕ → ℕ → Type 0
IsRankIn o nodes x = (node : ℕ) × Contains nodes node × (slice_get o.rank_of node ≡ Some x)

one_node : (o : OrderValue) → IsOrder o → (u v x : ℕ) → slice_get o.rank_of u ≡ Some x → slice_get o.rank_of v ≡ Some x → u ≡ v
one_node o f u v x at also = same_Some u v (sym (f.placed u x at) ∙ f.placed v x also)

read_left : (xs ys : List ℕ) (i v : ℕ) → i < length xs → get_or xs i v ≡ v → slice_get (xs ++ ys) i ≡ Some v
read_left xs ys i v below at =
    let within : i < length (xs ++ ys) = omega (arith, below, length-append xs ys) in
    slice_get-get_or (xs ++ ys) i v within ∙ ap Some (get_or_append_left xs ys v i below ∙ at)

read_right : (xs ys : List ℕ) (i v : ℕ) → i < length ys → get_or ys i v ≡ v → slice_get (xs ++ ys) (length xs + i) ≡ Some v
read_right xs ys i v below at =
    let within : length xs + i < length (xs ++ ys) = omega (arith, below, length-append xs ys) in
    slice_get-get_or (xs ++ ys) (length xs + i) v within ∙ ap Some (get_or-append-add xs ys i v ∙ at)

-- a node in front ranks below the number of those in front, and one further back doesn't
rank_in_front : (o : OrderValue) → IsOrder o → (front back : List ℕ) → o.node_at ≡ front ++ back → (v x : ℕ) → Contains front v → slice_get o.rank_of v ≡ Some x → x < length front
rank_in_front o f front back whole v x c at =
    let there : slice_get (front ++ back) c.0 ≡ Some v = read_left front back c.0 v c.1 c.2 in
    let ranked : slice_get o.rank_of v ≡ Some c.0 = f.ranked c.0 v (subst (λ (nodes : List ℕ). slice_get nodes c.0 ≡ Some v) (sym whole) there) in
    let same : c.0 ≡ x = same_Some c.0 x (sym ranked ∙ at) in
    omega (arith, same, c.1)

rank_in_back : (o : OrderValue) → IsOrder o → (front back : List ℕ) → o.node_at ≡ front ++ back → (v x : ℕ) → Contains back v → slice_get o.rank_of v ≡ Some x → length front ≤ x
rank_in_back o f front back whole v x c at =
    let there : slice_get (front ++ back) (length front + c.0) ≡ Some v = read_right front back c.0 v c.1 c.2 in
    let ranked : slice_get o.rank_of v ≡ Some (length front + c.0) = f.ranked (length front + c.0) v (subst (λ (nodes : List ℕ). slice_get nodes (length front + c.0) ≡ Some v) (sym whole) there) in
    let same : length front + c.0 ≡ x = same_Some (length front + c.0) x (sym ranked ∙ at) in
    omega (arith, same)

-- a side of a split whose roads out of it lead to ranks from this one on
record IsSide (g : NetworkValue) (o : OrderValue) (side : List ℕ) (top : ℕ) : Type 0 where
  below : (x : ℕ) → IsRankIn o side x → x < top
  out : (x y : ℕ) → IsRankIn o side x → Adjacent g o x y → IsRankIn o side y ⊎ (top ≤ y)

linked_out : (g : NetworkValue) (o : OrderValue) → IsOrder o → (front back side : List ℕ) → o.node_at ≡ front ++ back → LeadsBack g side back
    → (u v node x y : ℕ) → Contains side node → slice_get o.rank_of node ≡ Some x
    → slice_get o.rank_of u ≡ Some x → slice_get o.rank_of v ≡ Some y → AreLinked g u v → IsRankIn o side y ⊎ (length front ≤ y)
linked_out g o f front back side whole leads u v node x y c at_node at_u at_v linked =
    let same : node ≡ u = one_node o f node u x at_node at_u in
    elim (leads u v (subst (Contains side) same c) linked) [
      | inl stays ↦ inl (v, stays, at_v)
      | inr leaves ↦ inr (rank_in_back o f front back whole v y leaves at_v)
    ]

side_of : (g : NetworkValue) (o : OrderValue) → IsOrder o → (front back side : List ℕ) → o.node_at ≡ front ++ back
    → ((v : ℕ) → Contains side v → Contains front v) → LeadsBack g side back → IsSide g o side (length front)
side_of g o f front back side whole within leads = record {
  below = λ x r. rank_in_front o f front back whole r.0 x (within r.0 r.1) r.2;
  out = λ x y r adjacent. elim adjacent.1 [
    | inl road ↦ linked_out g o f front back side whole leads road.0 road.1 r.0 x y r.1 r.2 road.3 road.4 (adjacent.0, inl road.2)
    | inr road ↦ linked_out g o f front back side whole leads road.1 road.0 r.0 x y r.1 r.2 road.4 road.3 (adjacent.0, inr road.2)
  ];
}

-- a path over ranks below the top stays on its side, but for its end
path_stays : (g : NetworkValue) (o : OrderValue) (side : List ℕ) (top m x : ℕ) (inner : List ℕ) (y : ℕ) → IsSide g o side top → m ≤ top → IsRankIn o side x
    → PathBelow g o m x inner y → IsRankIn o side y ⊎ (top ≤ y)
path_stays g o side top m x [] y f low r p = f.out x y r p
path_stays g o side top m x (z ∷ inner) y f low r p =
    elim (f.out x z r p.0) [
      | inl stays ↦ path_stays g o side top m z inner y f low stays p.2
      | inr leaves ↦ absurd (omega (arith, leaves, p.1, low))
    ]

-- an edge upwards leads to the same side or to the top
abbrev IsOnOrAbove : OrderValue → List ℕ → ℕ → ℕ → Type 0
IsOnOrAbove o side top x = IsRankIn o side x ⊎ (top ≤ x)

up_stays : (g : NetworkValue) (o : OrderValue) (side : List ℕ) (top x y : ℕ) → IsSide g o side top → IsOnOrAbove o side top x → IsUp g o x y → IsOnOrAbove o side top y
up_stays g o side top x y f at up =
    elim at [
      | inl r ↦ let below = f.below x r in path_stays g o side top x x up.1.0 y f (omega (arith, below)) r up.1.1
      | inr above ↦ inr (omega (arith, above, up.0))
    ]

-- the parent of a rank is the first of its higher neighbours
parent_read : (graph : ChordalValue) (x y : ℕ) → flat (slice_get (parents_in graph) x) ≡ Some y → slice_get (up_of graph.edges x) 0 ≡ Some y
parent_read graph x y parent =
    let there : slice_get (parents_in graph) x ≡ Some (Some y) = parent_there (slice_get (parents_in graph) x) y parent in
    let within : x < length (parents_in graph) = slice_get_within (parents_in graph) x (Some y) there in
    let long = length-map-range_with_len (parent_of graph.edges) 0 graph.ranks in
    let below : x < graph.ranks = omega (arith, within, long) in
    sym (get_or-map-range_with_len (parent_of graph.edges) 0 graph.ranks x x (Some y) below (omega arith)) ∙ get_or_from_slice_get (parents_in graph) x (Some y) (Some y) there

module _ (g : NetworkValue) (o : OrderValue) (graph : ChordalValue) where
  parent_up : (x y : ℕ) → IsClosureOf g o graph → flat (slice_get (parents_in graph) x) ≡ Some y → IsUp g o x y
  parent_up x y f parent =
      let edge : HasEdge graph.edges x y = edge_from_up_of graph.edges x y (member_at (up_of graph.edges x) y 0 (parent_read graph x y parent)) in
      let exact = (f.edges.exact x y).0 edge in
      up_from_edge g o x y exact.0 exact.1

  climb_stays : (side : List ℕ) (top fuel : ℕ) (at : Option ℕ) (y : ℕ) → IsClosureOf g o graph → IsSide g o side top → ((x : ℕ) → at ≡ Some x → IsOnOrAbove o side top x)
      → Contains (climb fuel (parents_in graph) at) y → IsOnOrAbove o side top y
  climb_stays side top zero at y f s start c = absurd (none_in_nil y c)
  climb_stays side top (suc fuel) None y f s start c = absurd (none_in_nil y c)
  climb_stays side top (suc fuel) (Some x) y f s start c =
      let parents = parents_in graph in
      elim (member_cases x (climb fuel parents (flat (slice_get parents x))) y c) [
        | inl same ↦ subst (IsOnOrAbove o side top) same (start x refl)
        | inr higher ↦ climb_stays side top fuel (flat (slice_get parents x)) y f s (λ p e. up_stays g o side top x p s (start x refl) (parent_up x p f e)) higher
      ]

  ancestor_stays : (side : List ℕ) (top x y : ℕ) → IsClosureOf g o graph → IsSide g o side top → IsRankIn o side x → Contains (ancestors_in graph x) y → IsOnOrAbove o side top y
  ancestor_stays side top x y f s r c = climb_stays side top (length (parents_in graph)) (Some x) y f s (λ z e. inl (subst (IsRankIn o side) (same_Some x z e) r)) c

  -- an ancestor of a rank of one side is no rank of the other
  no_ancestor : (side other : List ℕ) (top u v x y : ℕ) → IsOrder o → IsClosureOf g o graph → IsSide g o side top → IsSide g o other top
      → ((w : ℕ) → Contains side w → Contains other w → ⊥) → Contains side u → Contains other v → slice_get o.rank_of u ≡ Some x → slice_get o.rank_of v ≡ Some y
      → Contains (ancestors_in graph x) y → ⊥
  no_ancestor side other top u v x y order f s t disjoint c d at_u at_v ancestor =
      elim (ancestor_stays side top x y f s (u, c, at_u) ancestor) [
        | inl r ↦ disjoint v (subst (Contains side) (one_node o order r.0 v y r.2 at_v) r.1) d
        | inr above ↦ let below = t.below y (v, d, at_v) in absurd (omega (arith, above, below))
      ]

  pub barred_unrelated : (split : SplitValue) → IsOrder o → IsClosureOf g o graph → IsBarred g o.node_at split → IsUnrelated graph o split
  barred_unrelated split order f b u v x y c d at_u at_v related =
      let top : ℕ = length b.front in
      let left : IsSide g o split.left top = side_of g o order b.front b.back split.left b.whole b.left_in b.left_out in
      let right : IsSide g o split.right top = side_of g o order b.front b.back split.right b.whole b.right_in b.right_out in
      elim related [
        | inl up ↦ no_ancestor split.left split.right top u v x y order f left right b.disjoint c d at_u at_v up
        | inr up ↦ no_ancestor split.right split.left top v u y x order f right left (λ w e h. b.disjoint w h e) d c at_v at_u up
      ]
