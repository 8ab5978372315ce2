-- In a built hierarchy the nodes of an unpacked walk are different.
use Rattle.std.proofs.Common.{◌≡◌, ◌≢◌, ◌<◌, ◌∙◌, ℕ, suc, List, [], ◌∷◌, ◌++◌, Option, Some, None, refl, sym, ap, subst, arith, inl, inr, min, eqb}
use Rattle.std.specs.Prelude.{All, slice_get}
use Rattle.std.specs.List.{AllPairs, Contains, IsDistinct}
use Rattle.std.proofs.lemmas.Bool.Decides.{Decides-eqb}
use Rattle.std.proofs.lemmas.List.Elements.{All-cons, All-nil}
use Rattle.std.proofs.lemmas.List.Kept.{AllPairs-cons}
use Rattle.std.proofs.lemmas.Map.Made.{AllPairs-from_IsDistinct}
use Rattle.std.proofs.lemmas.Map.Views.{list_any-from_Contains}
use Rattle.std.specs.Cmp.{nat_eq_equiv}
use Rattle.std.proofs.lemmas.Option.{same_Some}
use Rattle.cu_model.specs.Networks.{NetworkValue}
use Rattle.cu_model.specs.Orders.{IsOrder, OrderValue}
use Rattle.cu_model.specs.Roads.{Leads}
use Rattle.cu_chordal.specs.declared.graph.Ends.{Ends}
use Rattle.cu_chordal.proofs.Members.{here, member_cases, none_in_nil, pairs_append, pairs_head, pairs_tail}
use Rattle.cu_interval.specs.declared.ways.Dir.{Dir}
use Rattle.cu_interval.specs.declared.ways.Entry.{Entry}
use Rattle.cu_interval.specs.Hierarchies.{HierarchyValue, IsBuilt, list_from, start_of, end_of}
use Rattle.cu_interval.specs.Unpacking.{unpacked, unpacked_walk, unpacked_way}
use Rattle.cu_interval.specs.WayLists.{way_at}
use Rattle.cu_interval.proofs.EndsLaws.{ends_apart, ends_range}
use Rattle.cu_interval.proofs.Simple.{Through, inner_below}
use Rattle.cu_interval.proofs.SimpleWalks.{built_simple}
use Rattle.cu_interval.proofs.Unpacked.{unpacked-low}
use Rattle.cu_unpack.specs.Answers.{walk_between, walk_over}
use Rattle.cu_unpack.specs.Visits.{Visits, VisitsOnce}

-- these nodes have these ranks
abbrev HaveRanks : OrderValue → List ℕ → List ℕ → Type 0
HaveRanks o [] [] = Unit {0}
HaveRanks o [] (rank ∷ ranks) = ⊥
HaveRanks o (node ∷ nodes) [] = ⊥
HaveRanks o (node ∷ nodes) (rank ∷ ranks) = (slice_get o.rank_of node ≡ Some rank) × HaveRanks o nodes ranks

other_nodes : (o : OrderValue) (nodes ranks : List ℕ) (node rank : ℕ) → HaveRanks o nodes ranks → slice_get o.rank_of node ≡ Some rank
    → All (λ x. rank ≢ x) ranks → All (λ x. node ≢ x) nodes
other_nodes o [] ranks node rank have at apart = All-nil (λ x. node ≢ x)
other_nodes o (x ∷ nodes) [] node rank have at apart = absurd have
other_nodes o (x ∷ nodes) (r ∷ ranks) node rank (is, have) at apart =
    All-cons (λ y. node ≢ y) x nodes
    (λ same. apart 0 r (omega arith) (same_Some rank r (sym at ∙ ap (slice_get o.rank_of) same ∙ is)))
    (other_nodes o nodes ranks node rank have at (λ i d lt. apart (suc i) d (omega (arith, lt))))

-- nodes whose ranks differ differ
nodes_apart : (o : OrderValue) (nodes ranks : List ℕ) → HaveRanks o nodes ranks → AllPairs (λ x y. x ≢ y) ranks → AllPairs (λ x y. x ≢ y) nodes
nodes_apart o [] ranks have apart = λ i j d lt within. absurd (omega (arith, within))
nodes_apart o (x ∷ nodes) [] have apart = absurd have
nodes_apart o (x ∷ nodes) (r ∷ ranks) (is, have) apart =
    AllPairs-cons (λ a b. a ≢ b) x nodes (other_nodes o nodes ranks x r have is (pairs_head (λ a b. a ≢ b) r ranks apart))
    (nodes_apart o nodes ranks have (pairs_tail (λ a b. a ≢ b) r ranks apart))

-- a walk's nodes behind its start, with their ranks
abbrev HasNodes : NetworkValue → OrderValue → ℕ → List ℕ → List ℕ → Type 0
HasNodes g o start walk ranks = (nodes : List ℕ) × Visits g (start ∷ nodes) walk × HaveRanks o nodes ranks

module _ (g : NetworkValue) (o : OrderValue) (sound : IsOrder o) (m : ℕ) where
  same_node : (a b rank : ℕ) → slice_get o.rank_of a ≡ Some rank → slice_get o.rank_of b ≡ Some rank → a ≡ b
  same_node a b rank e k = same_Some a b (sym (sound.placed a rank e) ∙ sound.placed b rank k)

  nodes_through : (u : ℕ) (walk ranks : List ℕ) (v start : ℕ) → Through g o m u walk ranks v → slice_get o.rank_of start ≡ Some u
      → HasNodes g o start walk (ranks ++ (v ∷ []))
  nodes_through u [] ranks v start t at = absurd t
  nodes_through u (a ∷ []) ranks v start ((tail, head, leads, from, to), none) at =
      let same : tail ≡ start = same_node tail start u from at in
      let leads_on : Leads g a start head = subst (λ (x : ℕ). Leads g a x head) same leads in
      (head ∷ [], (leads_on, tt), subst (λ (rs : List ℕ). HaveRanks o (head ∷ []) (rs ++ (v ∷ []))) (sym none) (to, tt))
  nodes_through u (a ∷ b ∷ walk) [] v start t at = absurd t
  nodes_through u (a ∷ b ∷ walk) (x ∷ ranks) v start ((tail, head, leads, from, to), lt, more) at =
      let same : tail ≡ start = same_node tail start u from at in
      let leads_on : Leads g a start head = subst (λ (x : ℕ). Leads g a x head) same leads in
      let (nodes, visits, have) = nodes_through x (b ∷ walk) ranks v head more to in
      (head ∷ nodes, (leads_on, visits), (to, have))

  -- with its start
  all_nodes : (u : ℕ) (walk ranks : List ℕ) (v : ℕ) → Through g o m u walk ranks v
      → (nodes : List ℕ) × Visits g nodes walk × HaveRanks o nodes (u ∷ (ranks ++ (v ∷ [])))
  all_nodes u [] ranks v t = absurd t
  all_nodes u (a ∷ []) ranks v t =
      let start = t.0.0 in
      let at = t.0.3 in
      let (nodes, visits, have) = nodes_through u (a ∷ []) ranks v start t at in
      (start ∷ nodes, visits, (at, have))
  all_nodes u (a ∷ b ∷ walk) [] v t = absurd t
  all_nodes u (a ∷ b ∷ walk) (x ∷ ranks) v t =
      let start = t.0.0 in
      let at = t.0.3 in
      let (nodes, visits, have) = nodes_through u (a ∷ b ∷ walk) (x ∷ ranks) v start t at in
      (start ∷ nodes, visits, (at, have))

-- inner ranks that differ and are below both ends, which differ
ranks_apart : (u v : ℕ) (ranks : List ℕ) → u ≢ v → IsDistinct eqb ranks → ((x : ℕ) → Contains ranks x → x < min u v) → AllPairs (λ x y. x ≢ y) (u ∷ (ranks ++ (v ∷ [])))
ranks_apart u v ranks apart once low =
    let R : ℕ → ℕ → Type 0 = λ a b. a ≢ b in
    let one : AllPairs R (v ∷ []) = λ i j d lt within. absurd (omega (arith, lt, within)) in
    let inner = pairs_append R ranks (v ∷ []) (AllPairs-from_IsDistinct Decides-eqb ranks once) one (λ x y c last same.
    elim (member_cases v [] y last) [
      | inl is ↦ let lt = low x c in absurd (omega (arith, lt, same, is))
      | inr none ↦ none_in_nil y none
    ]) in
    AllPairs-cons R u (ranks ++ (v ∷ [])) (all_behind ranks low) inner
  where
    all_behind : (xs : List ℕ) → ((x : ℕ) → Contains xs x → x < min u v) → All (λ x. u ≢ x) (xs ++ (v ∷ []))
    all_behind [] low = All-cons (λ x. u ≢ x) v [] apart (All-nil (λ x. u ≢ x))
    all_behind (x ∷ xs) low =
        All-cons (λ x. u ≢ x) x (xs ++ (v ∷ [])) (λ same. let lt = low x (here x xs) in absurd (omega (arith, lt, same)))
        (all_behind xs (λ y c. low y (suc c.0, omega (arith, c.1), c.2)))

no_road : (g : NetworkValue) → VisitsOnce g []
no_road g = (0 ∷ [], tt, λ i j d lt within. absurd (omega (arith, lt, within)))

module _ (h : HierarchyValue) (f : IsBuilt h) where
  once_by : (u v t : ℕ) → u ≢ v → (entries : List Entry) → list_from h u v ≡ entries → VisitsOnce h.network (unpacked_walk h u v t)
  once_by u v t apart [] e =
      let empty : unpacked_walk h u v t ≡ [] = ap (λ (es : List Entry). unpacked_way h.network (unpacked h (min u v)) u v t (way_at es t)) e in
      subst (VisitsOnce h.network) (sym empty) (no_road h.network)
  once_by u v t apart (entry ∷ entries) e =
      let walk = unpacked_walk h u v t in
      let low = unpacked-low h f.sound u v t apart (λ none. absurd (cc (none, e))) in
      let (ranks, through, different) = built_simple h f u v t (walk, low) in
      let (nodes, visits, have) = all_nodes h.network h.order f.sound.order (min u v) u walk ranks v through in
      let below : (x : ℕ) → Contains ranks x → x < min u v = λ x c. inner_below h.network h.order (min u v) u walk ranks v x through (list_any-from_Contains nat_eq_equiv x ranks c) in
      (nodes, visits, nodes_apart h.order nodes (u ∷ (ranks ++ (v ∷ []))) have (ranks_apart u v ranks apart different below))

  -- the walk of an edge in a direction visits no node twice
  pub visited_once : (edge : ℕ) (dir : Dir) (t : ℕ) → VisitsOnce h.network (walk_over h edge dir t)
  visited_once edge dir t = between (slice_get h.edges edge) refl
    where
      between : (o : Option Ends) → slice_get h.edges edge ≡ o → VisitsOnce h.network (walk_between h o dir t)
      between None at = no_road h.network
      between (Some ends) at =
          let range = ends_range h f.sound edge ends at in
          once_by (start_of ends dir) (end_of ends dir) t (ends_apart ends dir range.0) (list_from h (start_of ends dir) (end_of ends dir)) refl
