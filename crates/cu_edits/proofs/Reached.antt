-- The edges reached from those of the changed roads are the touched ones.
use Rattle.std.proofs.Common.{◌≡◌, ◌≢◌, ◌≤◌, ◌<◌, ◌+◌, ◌∙◌, ℕ, zero, suc, List, [], ◌∷◌, Some, refl, nat_cmp, sym, subst, arith, inl, inr, length}
use Rattle.std.specs.Prelude.{◌↔◌, All, cond, max, min, slice_get}
use Rattle.std.specs.List.{AllPairs, Contains}
use Rattle.std.specs.List.Sorted.{IsPermutation, IsSorted}
use Rattle.std.proofs.lemmas.Bool.{cases_eq, eqb-true}
use Rattle.std.proofs.lemmas.Bool.Decides.{Decides-eqb, eqb_tells}
use Rattle.std.proofs.lemmas.List.Sorted.{Contains-permutation, IsPermutation-sym}
use Rattle.std.proofs.lemmas.Map.Made.{IsDistinct-from_AllPairs}
use Rattle.std.proofs.lemmas.Map.Steps.{length-le_from_distinct_below}
use Rattle.std.proofs.lemmas.Map.Views.{Contains-from_any}
use Rattle.std.proofs.lemmas.Option.{same_Some, slice_get_within}
use Rattle.cu_model.specs.declared.roads.Edit.{Edit}
use Rattle.cu_model.proofs.ListLaws.{item_there}
use Rattle.cu_chordal.specs.declared.graph.Ends.{Ends}
use Rattle.cu_chordal.specs.Graphs.{ChordalValue, HasEdge, IsChordal, up_of}
use Rattle.cu_chordal.proofs.Adding.{sorted_part}
use Rattle.cu_chordal.proofs.Closed.{parent_least}
use Rattle.cu_chordal.proofs.Members.{here, member_at, none_in_nil, place_of, there}
use Rattle.cu_chordal.proofs.Tables.{edge_from_up_of, edge_within, up_of_from_edge}
use Rattle.cu_interval.specs.Hierarchies.{HierarchyValue, IsHierarchy}
use Rattle.cu_interval.specs.Touching.{IsTouched, IsTouchedEdge, by_first, by_road, by_second}
use Rattle.cu_interval.proofs.Lookups.{one_number}
use Rattle.cu_resettled.specs.ResettlingAll.{edited_all}
use Rattle.cu_edits.specs.Steps.Found.{AddsFound, AreTouchedFrom, IsOfSome, IsReached, LeadsTo, Reaches, joined_to, onward, start}
use Rattle.cu_edits.specs.Steps.Spreading.{IsAbove, IsBetween, IsOfChanged}
use Rattle.cu_edits.proofs.FoundLaws.{stays_found}
use Rattle.cu_edits.proofs.Planned.{bare, bare_sound, over_bare, some_changed}
use Rattle.cu_edits.proofs.Spreading.{above_touched, between_down, between_up, changed_touched}

-- the edge to one of these ranks leads to these, and from the lowest to all
pub joined_among : (highs : List ℕ) (high rank : ℕ) → Contains (joined_to highs high) rank → Contains highs rank
joined_among [] high rank c = c
joined_among (x ∷ xs) high rank c = elim (eqb_tells x high) [
  | inl at ↦ subst (λ b. Contains (cond b (x ∷ xs) (x ∷ [])) rank) at.0 c
  | inr off ↦ first_of x xs rank (subst (λ b. Contains (cond b (x ∷ xs) (x ∷ [])) rank) off.0 c)
]
  where
    first_of : (x : ℕ) (xs : List ℕ) (rank : ℕ) → Contains (x ∷ []) rank → Contains (x ∷ xs) rank
    first_of x xs rank (zero, inside, read) = (zero, omega arith, read)
    first_of x xs rank (suc i, inside, read) = absurd (omega (arith, inside))

pub joined_all : (x : ℕ) (xs : List ℕ) (high rank : ℕ) → x ≡ high → Contains (x ∷ xs) rank → Contains (joined_to (x ∷ xs) high) rank
joined_all x xs high rank same c = elim (eqb_tells x high) [
  | inl at ↦ subst (λ b. Contains (cond b (x ∷ xs) (x ∷ [])) rank) (sym at.0) c
  | inr off ↦ absurd (off.1 same)
]

pub joined_lowest : (x : ℕ) (xs : List ℕ) (high : ℕ) → Contains (joined_to (x ∷ xs) high) x
joined_lowest x xs high = elim (eqb_tells x high) [
  | inl at ↦ subst (λ b. Contains (cond b (x ∷ xs) (x ∷ [])) x) (sym at.0) (here x xs)
  | inr off ↦ subst (λ b. Contains (cond b (x ∷ xs) (x ∷ [])) x) (sym off.0) (here x [])
]

between_flipped : (edges : List Ends) (x y e : ℕ) → IsBetween edges x y e → IsBetween edges y x e
between_flipped edges x y e at =
    let low : min x y ≡ min y x = omega arith in
    let high : max x y ≡ max y x = omega arith in
    subst (λ (p : ℕ). slice_get edges e ≡ Some (record { low = p; high = max y x })) low (subst (λ (q : ℕ). slice_get edges e ≡ Some (record { low = min x y; high = q })) high at)

-- edges that were found with all that they lead to
module _ (graph : ChordalValue) (sound : IsChordal graph) (found : List ℕ)
    (all : (e next : ℕ) → Contains found e → LeadsTo graph.edges e next → Contains found next) where
  -- are found with all over the lower triangles that they are sides of
  over_found : (fuel m x y k e : ℕ) → x < m + fuel → slice_get graph.edges k ≡ Some (record { low = m; high = x }) → Contains found k → HasEdge graph.edges m y
      → x ≢ y → IsBetween graph.edges x y e → Contains found e
  over_found fuel m x y k e lt at c side other between =
      by_list fuel (up_of graph.edges m) m x y k e refl lt at c side other between
    where
      by_list : (fuel : ℕ) (ups : List ℕ) (m x y k e : ℕ) → ups ≡ up_of graph.edges m → x < m + fuel → slice_get graph.edges k ≡ Some (record { low = m; high = x })
          → Contains found k → HasEdge graph.edges m y → x ≢ y → IsBetween graph.edges x y e → Contains found e
      by_list fuel [] m x y k e ups lt at c side other between =
          absurd (none_in_nil y (subst (λ (us : List ℕ). Contains us y) (sym ups) (up_of_from_edge graph.edges m y side)))
      by_list zero (p ∷ ps) m x y k e ups lt at c side other between =
          let rise = (edge_within graph sound m x (member_at graph.edges (record { low = m; high = x }) k at)).0 in absurd (omega (arith, lt, rise))
      by_list (suc fuel) (p ∷ ps) m x y k e ups lt at c side other between =
          let ends : Ends = record { low = m; high = x } in
          let first = member_at graph.edges ends k at in
          let to_y : Contains (p ∷ ps) y = subst (λ (us : List ℕ). Contains us y) (sym ups) (up_of_from_edge graph.edges m y side) in
          let to_x : Contains (p ∷ ps) x = subst (λ (us : List ℕ). Contains us x) (sym ups) (up_of_from_edge graph.edges m x first) in
          let is_parent : slice_get (up_of graph.edges m) 0 ≡ Some p = subst (λ (us : List ℕ). slice_get us 0 ≡ Some p) ups refl in
          let least_x = parent_least graph.edges m p x sound.rising is_parent (subst (λ (us : List ℕ). Contains us x) ups to_x) in
          let least_y = parent_least graph.edges m p y sound.rising is_parent (subst (λ (us : List ℕ). Contains us y) ups to_y) in
          let parent : HasEdge graph.edges m p = edge_from_up_of graph.edges m p (member_at (up_of graph.edges m) p 0 is_parent) in
          let rise = (edge_within graph sound m p parent).0 in
          elim (cases_eq p x) [
            | inl same ↦ all k e c (ends, y, at, subst (λ (us : List ℕ). Contains (joined_to us x) y) ups (joined_all p ps x y same to_y), between_flipped graph.edges x y e between)
            | inr ne ↦
                let next : HasEdge graph.edges p x = sound.chordal m p x parent first (omega (arith, least_x, ne)) in
                let (j, there) = place_of graph.edges (record { low = p; high = x }) next in
                let up : IsBetween graph.edges p x j = between_up graph.edges p x j (omega (arith, least_x, ne)) there in
                let own : Contains found j = all k j c (ends, p, at, subst (λ (us : List ℕ). Contains (joined_to us x) p) ups (joined_lowest p ps x), up) in
                elim (cases_eq p y) [
                  | inl is ↦
                      let same : e ≡ j = one_number graph.edges sound.rising e j (min x y) (max x y) between (subst (λ (q : ℕ). IsBetween graph.edges x q j) is (between_flipped graph.edges p x j up)) in
                      subst (Contains found) (sym same) own
                  | inr apart ↦ by_list fuel (up_of graph.edges p) p x y j e refl (omega (arith, lt, rise)) there own (sound.chordal m p y parent side (omega (arith, least_y, apart))) other between
                ]
          ]

module _ (h : HierarchyValue) (sound : IsHierarchy h) (edit : Edit) (starts : List ℕ) (begun : (e : ℕ) → Contains starts e ↔ IsOfChanged h edit e) where
  leads_above : (edge next : ℕ) → LeadsTo h.edges edge next → IsAbove h.edges edge next
  leads_above edge next (ends, rank, at, joined, between) =
      (ends, rank, at, edge_from_up_of h.edges ends.low rank (joined_among (up_of h.edges ends.low) ends.high rank joined), between)

  -- what was reached is touched
  reached_touched : (e : ℕ) → IsReached h.edges starts e → IsTouchedEdge h edit e
  reached_touched _ (start e c) = changed_touched h sound edit e ((begun e).0 c)
  reached_touched _ (onward e next reached leads) = above_touched h sound edit e next (reached_touched e reached) (leads_above e next leads)

  module _ (found : List ℕ) (reaches : Reaches h.edges starts found) where
    leads_found : (e next : ℕ) → Contains found e → LeadsTo h.edges e next → Contains found next
    leads_found e next c leads = (reaches next).1 (onward e next ((reaches e).0 c) leads)

    over : (m x y k e : ℕ) → slice_get h.edges k ≡ Some (record { low = m; high = x }) → Contains found k → HasEdge h.edges m y → x ≢ y → IsBetween h.edges x y e → Contains found e
    over m x y k e at c side other between =
        over_found (record { ranks = h.network.nodes; edges = h.edges }) sound.graph found leads_found (x + 1) m x y k e (omega arith) at c side other between

    -- what is touched was found
    touched_found : (x y : ℕ) → IsTouched h.network h.order edit x y → (e : ℕ) → slice_get h.edges e ≡ Some (record { low = x; high = y }) → Contains found e
    touched_found _ _ (by_road a x y changed (inl links) lt) e at =
        (reaches e).1 (start e ((begun e).1 (a, changed, (x, y, links, between_up h.edges x y e lt at))))
    touched_found _ _ (by_road a x y changed (inr links) lt) e at =
        (reaches e).1 (start e ((begun e).1 (a, changed, (y, x, links, between_down h.edges x y e lt at))))
    touched_found _ _ (by_first m x y touched low lt first second) e at =
        let (k, side) = place_of h.edges (record { low = m; high = x }) ((sound.edges.exact m x).1 (low, first)) in
        let other : HasEdge h.edges m y = (sound.edges.exact m y).1 (omega (arith, low, lt), second) in
        over m x y k e side (touched_found m x touched k side) other (λ same. omega (arith, same, lt)) (between_up h.edges x y e lt at)
    touched_found _ _ (by_second m x y touched low lt first second) e at =
        let (k, side) = place_of h.edges (record { low = m; high = y }) ((sound.edges.exact m y).1 (omega (arith, low, lt), second)) in
        let other : HasEdge h.edges m x = (sound.edges.exact m x).1 (low, first) in
        over m y x k e side (touched_found m y touched k side) other (λ same. omega (arith, same, lt)) (between_down h.edges x y e lt at)

    pub found_touched : (e : ℕ) → Contains found e ↔ IsTouchedEdge h edit e
    found_touched e = ((λ c. reached_touched e ((reaches e).0 c)), λ t. touched_found t.0.low t.0.high t.2 e t.1)

-- all edges reached, in order, are those that an edit touches which changes these roads
pub touched_from : (h : HierarchyValue) → IsHierarchy h → (arcs starts found sorted : List ℕ) → ((e : ℕ) → Contains starts e ↔ IsOfSome h arcs e) → Reaches h.edges starts found
    → AllPairs (λ x y. x ≢ y) found → IsPermutation found sorted → IsSorted nat_cmp sorted → AreTouchedFrom h arcs sorted
touched_from h sound arcs starts found sorted begun reaches once moved in_order edits edit network changed =
    let g = edited_all h.network edits in
    let of_changed = λ (e : ℕ). some_changed h edits g refl edit arcs changed e in
    let touched = found_touched (bare h g) (bare_sound h edits g refl sound network) edit starts
    (λ e. ((λ c. (of_changed e).0 ((begun e).0 c)), λ own. (begun e).1 ((of_changed e).1 own))) found reaches in
    let back = IsPermutation-sym found sorted moved in
    over_bare h g edit sorted (record {
      rising = sorted_part found sorted (IsDistinct-from_AllPairs Decides-eqb found once) moved in_order;
      exact = λ e. (
        (λ c. (touched e).0 (Contains-permutation sorted found e back c)),
        λ t. Contains-permutation found sorted e moved ((touched e).1 t),
      );
    })

-- the same where they were reached in order
pub touched_rising : (h : HierarchyValue) → IsHierarchy h → (arcs starts found : List ℕ) → ((e : ℕ) → Contains starts e ↔ IsOfSome h arcs e) → Reaches h.edges starts found
    → AllPairs (λ x y. x < y) found → AreTouchedFrom h arcs found
touched_rising h sound arcs starts found begun reaches pairs edits edit network changed =
    let g = edited_all h.network edits in
    let of_changed = λ (e : ℕ). some_changed h edits g refl edit arcs changed e in
    over_bare h g edit found (record {
      rising = λ k lt. pairs k (k + 1) 0 (omega arith) lt;
      exact = found_touched (bare h g) (bare_sound h edits g refl sound network) edit starts
          (λ e. ((λ c. (of_changed e).0 ((begun e).0 c)), λ own. (begun e).1 ((of_changed e).1 own))) found reaches;
    })

-- the edges found so far lead to those found, and all were reached
pub record AreReachedSoFar (edges : List Ends) (starts found : List ℕ) (next : ℕ) : Type 0 where
  pub kept : (e : ℕ) → Contains starts e → Contains found e
  pub each : (e : ℕ) → Contains found e → IsReached edges starts e
  pub near : (i e onto : ℕ) → i < next → slice_get found i ≡ Some e → LeadsTo edges e onto → Contains found onto

pub reached_none : (edges : List Ends) (starts : List ℕ) → AreReachedSoFar edges starts starts 0
reached_none edges starts = record { kept = λ e c. c; each = λ e c. start e c; near = λ i e onto lt. absurd (omega (arith, lt)) }

pub reached_all : (edges : List Ends) (starts found : List ℕ) (next : ℕ) → length found ≤ next → AreReachedSoFar edges starts found next → Reaches edges starts found
reached_all edges starts found next all so e = (so.each e, back e)
  where
    back : (e : ℕ) → IsReached edges starts e → Contains found e
    back _ (start e c) = so.kept e c
    back _ (onward e onto reached leads) =
        let (i, at) = place_of found e (back e reached) in
        so.near i e onto (let inside = slice_get_within found i e at in omega (arith, inside, all)) at leads

-- one more of those found has led to all that it leads to
pub reached_more : (edges : List Ends) (starts found now : List ℕ) (next edge : ℕ) → slice_get found next ≡ Some edge → AreReachedSoFar edges starts found next
    → AddsFound (LeadsTo edges edge) found now → AreReachedSoFar edges starts now (next + 1)
reached_more edges starts found now next edge at so adds = record {
  kept = λ e c. stays_found (LeadsTo edges edge) found now adds e (so.kept e c);
  each = λ e c. elim (adds.each e c) [
    | inl before ↦ so.each e before
    | inr leads ↦ onward edge e (so.each edge (member_at found edge next at)) leads
  ];
  near = λ i e onto lt there leads. elim (cases_eq i next) [
    | inl same ↦
        let here : slice_get now next ≡ Some e = subst (λ (k : ℕ). slice_get now k ≡ Some e) same there in
        let is : edge ≡ e = same_Some edge e (sym (adds.kept next edge at) ∙ here) in
        adds.all onto (subst (λ (k : ℕ). LeadsTo edges k onto) (sym is) leads)
    | inr other ↦
        let inside = slice_get_within found next edge at in
        let (own, before) = item_there found i (omega (arith, lt, other, inside)) in
        let is : own ≡ e = same_Some own e (sym (adds.kept i own before) ∙ there) in
        stays_found (LeadsTo edges edge) found now adds onto (so.near i own onto (omega (arith, lt, other)) before (subst (λ (k : ℕ). LeadsTo edges k onto) (sym is) leads))
  ];
}

-- no more are found than there are
pub found_few : (count : ℕ) (found : List ℕ) → AllPairs (λ x y. x ≢ y) found → All (λ edge. edge < count) found → length found ≤ count
found_few count found once within =
    length-le_from_distinct_below found count (IsDistinct-from_AllPairs Decides-eqb found once)
    (λ q among. let (i, inside, read) = Contains-from_any eqb-true q found among in subst (λ (k : ℕ). k < count) read (within i q inside))
