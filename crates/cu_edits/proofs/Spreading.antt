-- Touched edges spread from the changed roads: what was added is touched, and in the end all that is touched was taken out.
use Rattle.std.proofs.Common.{◌≡◌, ◌≢◌, ◌≤◌, ◌<◌, ◌+◌, ◌∙◌, ◌⊎◌, ℕ, List, Option, Some, refl, ap, sym, subst, arith, inl, inr, length}
use Rattle.std.specs.Prelude.{◌↔◌, max, min, replicate, slice_get}
use Rattle.std.proofs.lemmas.Bool.{cases_eq, cases_lt}
use Rattle.std.proofs.lemmas.List.{length-replicate, length-set}
use Rattle.std.proofs.lemmas.List.Elements.{All-replicate}
use Rattle.std.proofs.lemmas.Option.{slice_get_cases, slice_get_within}
use Rattle.cu_model.proofs.RoadLaws.{all_at}
use Rattle.cu_model.specs.declared.roads.Edit.{Edit}
use Rattle.cu_model.proofs.OptionLaws.{same_value}
use Rattle.cu_model.proofs.ListLaws.{get_here, get_other}
use Rattle.cu_chordal.specs.declared.graph.Ends.{Ends}
use Rattle.cu_chordal.specs.Graphs.{ChordalValue, HasEdge}
use Rattle.cu_chordal.proofs.Members.{member_at, place_of}
use Rattle.cu_interval.specs.Hierarchies.{HierarchyValue, IsHierarchy, graph_of}
use Rattle.cu_interval.specs.Touching.{IsTouched, IsTouchedEdge, by_first, by_road, by_second}
use Rattle.cu_interval.proofs.EndsLaws.{ends_rise}
use Rattle.cu_links.specs.declared.buckets.EdgeState.{EdgeState}
use Rattle.cu_links.specs.declared.buckets.EdgeState.TheVariants.{Free, Held, Done}
use Rattle.cu_links.specs.Buckets.{BucketsValue, IsDone, IsFree, IsHeld, cleared, popped}
use Rattle.cu_edits.specs.Steps.Spreading.{Adds, AreBucketsOf, IsAbove, IsBetween, IsLowEnd, IsOfChanged, Takes}
use Rattle.cu_edits.proofs.AddingEdges.{buckets_of_added, done_before, free_before}

pub record IsSpreading (h : HierarchyValue) (edit : Edit) (buckets : BucketsValue) : Type 0 where
  pub fit : AreBucketsOf (graph_of h) buckets
  pub held : (e rank : ℕ) → IsHeld buckets e rank → IsTouchedEdge h edit e
  pub done : (e : ℕ) → IsDone buckets e → IsTouchedEdge h edit e
  pub changed : (e : ℕ) → IsOfChanged h edit e → IsFree buckets e → ⊥
  pub above : (e over : ℕ) → IsDone buckets e → IsAbove h.edges e over → IsFree buckets over → ⊥

-- what holds of two ranks in their order
pub at_min_max : (P : ℕ → ℕ → Type 0) (x y : ℕ) → (x < y → P x y) → (y ≤ x → P y x) → P (min x y) (max x y)
at_min_max P x y up down =
    elim (cases_lt x y) [
      | inl lt ↦
          let low : min x y ≡ x = omega (arith, lt) in
          let high : max x y ≡ y = omega (arith, lt) in
          subst (λ (p : ℕ). P p (max x y)) (sym low) (subst (P x) (sym high) (up lt))
      | inr ge ↦
          let low : min x y ≡ y = omega (arith, ge) in
          let high : max x y ≡ x = omega (arith, ge) in
          subst (λ (p : ℕ). P p (max x y)) (sym low) (subst (P y) (sym high) (down ge))
    ]

pub between_up : (edges : List Ends) (x y e : ℕ) → x < y → slice_get edges e ≡ Some (record { low = x; high = y }) → IsBetween edges x y e
between_up edges x y e lt at = at_min_max (λ p q. slice_get edges e ≡ Some (record { low = p; high = q })) x y (λ up. at) (λ down. absurd (omega (arith, lt, down)))

pub between_down : (edges : List Ends) (x y e : ℕ) → x < y → slice_get edges e ≡ Some (record { low = x; high = y }) → IsBetween edges y x e
between_down edges x y e lt at = at_min_max (λ p q. slice_get edges e ≡ Some (record { low = p; high = q })) y x (λ up. absurd (omega (arith, lt, up))) (λ down. at)

module _ (h : HierarchyValue) (sound : IsHierarchy h) where
  -- the edge of a changed road is touched
  pub changed_touched : (edit : Edit) (e : ℕ) → IsOfChanged h edit e → IsTouchedEdge h edit e
  changed_touched edit e (arc, changed, (x, y, links, at)) =
      let rise = ends_rise h sound e (record { low = min x y; high = max x y }) at in (
        record { low = min x y; high = max x y },
        at,
        at_min_max (λ p q. p < q → IsTouched h.network h.order edit p q) x y (λ lt up. by_road arc x y changed (inl links) lt) (λ ge up. by_road arc y x changed (inr links) up) rise,
      )

  -- the edges above a touched one are touched
  pub above_touched : (edit : Edit) (e over : ℕ) → IsTouchedEdge h edit e → IsAbove h.edges e over → IsTouchedEdge h edit over
  above_touched edit e over (ends, at, touched) (same, rank, there, side, between) =
      let is : ends ≡ same = same_value (slice_get h.edges e) ends same at there in
      let t : IsTouched h.network h.order edit same.low same.high = subst (λ (x : Ends). IsTouched h.network h.order edit x.low x.high) is touched in
      let (low, first) = (sound.edges.exact same.low same.high).0 (member_at h.edges same e there) in
      let (lower, second) = (sound.edges.exact same.low rank).0 side in
      let rise = ends_rise h sound over (record { low = min rank same.high; high = max rank same.high }) between in (
        record { low = min rank same.high; high = max rank same.high },
        between,
        at_min_max (λ p q. p < q → IsTouched h.network h.order edit p q) rank same.high (λ lt up. by_second same.low rank same.high t lower lt second first)
            (λ ge up. by_first same.low same.high rank t low up first second) rise,
      )

-- in cleared buckets all edges are free
all_free : (ranks edges e : ℕ) (state : EdgeState) → slice_get (cleared ranks edges).states e ≡ Some state → state ≡ Free
all_free ranks edges e state at = all_at (λ (s : EdgeState). s ≡ Free) (replicate edges Free) e state (All-replicate (λ (s : EdgeState). s ≡ Free) edges Free refl) at

pub none_done : (ranks edges e : ℕ) → IsDone (cleared ranks edges) e → ⊥
none_done ranks edges e done = absurd (cc (all_free ranks edges e Done done))

-- the edges of the changed roads were added to cleared buckets
pub spreading_begin : (h : HierarchyValue) → IsHierarchy h → (edit : Edit) (ranks edges : ℕ) (buckets : BucketsValue) → AreBucketsOf (graph_of h) (cleared ranks edges)
    → Adds h.edges (IsOfChanged h edit) (cleared ranks edges) buckets
    → IsSpreading h edit buckets
spreading_begin h sound edit ranks edges buckets fit adds =
    let IsNew = IsOfChanged h edit in
    record {
      fit = buckets_of_added (graph_of h) IsNew (cleared ranks edges) buckets fit adds;
      held = λ e rank held. elim (adds.each e) [
        | inl kept ↦ absurd (cc (all_free ranks edges e (Held rank) (sym kept ∙ held)))
        | inr a ↦ changed_touched h sound edit e a.is_new
      ];
      done = λ e done. absurd (none_done ranks edges e (done_before h.edges IsNew (cleared ranks edges) buckets adds e done));
      changed = adds.all;
      above = λ e over done. absurd (none_done ranks edges e (done_before h.edges IsNew (cleared ranks edges) buckets adds e done));
    }

pub buckets_cleared : (graph : ChordalValue) (ranks edges : ℕ) → ranks ≡ graph.ranks → edges ≡ length graph.edges → AreBucketsOf graph (cleared ranks edges)
buckets_cleared graph ranks edges same count = record {
  ranks = same;
  count = length-replicate edges Free ∙ count;
  held = λ e rank held. absurd (cc (all_free ranks edges e (Held rank) held));
}

module _ (buckets : BucketsValue) (edge rank : ℕ) (held : IsHeld buckets edge rank) where
  -- what is taken out isn't held any more, and all else is as it was
  popped_here : IsDone (popped buckets edge rank) edge
  popped_here = get_here buckets.states edge Done (slice_get_within buckets.states edge (Held rank) held)

  popped_other : (e : ℕ) (state : EdgeState) → state ≢ Done → slice_get (popped buckets edge rank).states e ≡ Some state → slice_get buckets.states e ≡ Some state
  popped_other e state not_done at =
      elim (cases_eq edge e) [
        | inl same ↦ absurd (not_done (same_value (slice_get (popped buckets edge rank).states e) state Done at (subst (IsDone (popped buckets edge rank)) same popped_here)))
        | inr other ↦ sym (get_other buckets.states edge e Done other) ∙ at
      ]

  -- what was done before, or was taken out
  pub done_popped : (e : ℕ) → IsDone (popped buckets edge rank) e ↔ (IsDone buckets e ⊎ (edge ≡ e))
  done_popped e = elim (cases_eq edge e) [
    | inl same ↦ ((λ d. inr same), λ d. subst (IsDone (popped buckets edge rank)) same popped_here)
    | inr other ↦
        let kept = get_other buckets.states edge e Done other in
        ((λ d. inl (sym kept ∙ d)), λ d. only_left (IsDone buckets e) (edge ≡ e) (IsDone (popped buckets edge rank) e) d (λ l. kept ∙ l) other)
  ]
    where
      only_left : (A B C : Type 0) → A ⊎ B → (A → C) → (B → ⊥) → C
      only_left A B C (inl a) f n = f a
      only_left A B C (inr b) f n = absurd (n b)

  pub buckets_of_popped : (graph : ChordalValue) → AreBucketsOf graph buckets → AreBucketsOf graph (popped buckets edge rank)
  buckets_of_popped graph fit = record {
    ranks = fit.ranks;
    count = length-set buckets.states edge Done ∙ fit.count;
    held = λ e r at. fit.held e r (popped_other e (Held r) (λ x. absurd (cc x)) at);
  }

-- one more touched edge is taken out
pub spreading_step : (h : HierarchyValue) → IsHierarchy h → (edit : Edit) (old new : BucketsValue) (edge : ℕ) → IsSpreading h edit old → Takes h.edges old new (Some edge)
    → IsSpreading h edit new
spreading_step h sound edit old new edge s (rank, lowest, adds) =
    let mid = popped old edge rank in
    let IsNew = IsAbove h.edges edge in
    let touched = s.held edge rank lowest.held in
    let free : (e : ℕ) → IsFree new e → IsFree old e = λ e f. popped_other old edge rank lowest.held e Free (λ x. absurd (cc x)) (free_before h.edges IsNew mid new adds e f) in
    let done : (e : ℕ) → IsDone new e → IsDone old e ⊎ (edge ≡ e) = λ e d. (done_popped old edge rank lowest.held e).0 (done_before h.edges IsNew mid new adds e d) in
    record {
      fit = buckets_of_added (graph_of h) IsNew mid new (buckets_of_popped old edge rank lowest.held (graph_of h) s.fit) adds;
      held = λ e r held. elim (adds.each e) [
        | inl kept ↦ s.held e r (popped_other old edge rank lowest.held e (Held r) (λ x. absurd (cc x)) (sym kept ∙ held))
        | inr a ↦ above_touched h sound edit edge e touched a.is_new
      ];
      done = λ e d. elim (done e d) [
        | inl before ↦ s.done e before
        | inr same ↦ subst (IsTouchedEdge h edit) same touched
      ];
      changed = λ e is f. s.changed e is (free e f);
      above = λ e over d is f. elim (done e d) [
        | inl before ↦ s.above e over before is (free over f)
        | inr same ↦ adds.all over (subst (λ (k : ℕ). IsAbove h.edges k over) (sym same) is) f
      ];
    }

-- a state that is neither free nor held is done
neither : (o : Option EdgeState) (state : EdgeState) → o ≡ Some state → (o ≡ Some Free → ⊥) → ((rank : ℕ) → o ≡ Some (Held rank) → ⊥) → o ≡ Some Done
neither o Free is free held = absurd (free is)
neither o (Held rank) is free held = absurd (held rank is)
neither o Done is free held = is

same_low : (edges : List Ends) (e x y rank : ℕ) → slice_get edges e ≡ Some (record { low = x; high = y }) → IsLowEnd edges e rank → x ≡ rank
same_low edges e x y rank at (ends, there, low) = ap (λ (p : Ends). p.low) (same_value (slice_get edges e) (record { low = x; high = y }) ends at there) ∙ low

module _ (h : HierarchyValue) (sound : IsHierarchy h) (edit : Edit) (buckets : BucketsValue) (s : IsSpreading h edit buckets) where
  module _ (bound : ℕ) (none : (e rank : ℕ) → IsHeld buckets e rank → bound ≤ rank) where
    -- an edge that was added, of a rank below all that hold an edge, was taken out
    done_below : (x y e : ℕ) → x < bound → slice_get h.edges e ≡ Some (record { low = x; high = y }) → (IsFree buckets e → ⊥) → IsDone buckets e
    done_below x y e below at added =
        let inside = slice_get_within h.edges e (record { low = x; high = y }) at in
        let count = s.fit.count in
        elim (slice_get_cases buckets.states e).1 [
          | inl here ↦ let (state, lt, is, read) = here in neither (slice_get buckets.states e) state is added (λ rank held.
              let low = same_low h.edges e x y rank at (s.fit.held e rank held) in
              let high = none e rank held in
              omega (arith, below, low, high))
          | inr past ↦ absurd (omega (arith, inside, count, past.0))
        ]

    -- each touched edge of a rank below all that hold an edge was taken out
    reached : (x y : ℕ) → IsTouched h.network h.order edit x y → x < bound → (e : ℕ) → slice_get h.edges e ≡ Some (record { low = x; high = y }) → IsDone buckets e
    reached _ _ (by_road a x y changed (inl links) lt) below e at =
        done_below x y e below at (s.changed e (a, changed, (x, y, links, between_up h.edges x y e lt at)))
    reached _ _ (by_road a x y changed (inr links) lt) below e at =
        done_below x y e below at (s.changed e (a, changed, (y, x, links, between_down h.edges x y e lt at)))
    reached _ _ (by_first m x y touched low lt first second) below e at =
        let (k, side) = place_of h.edges (record { low = m; high = x }) ((sound.edges.exact m x).1 (low, first)) in
        let other : HasEdge h.edges m y = (sound.edges.exact m y).1 (omega (arith, low, lt), second) in
        let before = reached m x touched (omega (arith, low, below)) k side in
        done_below x y e below at (s.above k e before (record { low = m; high = x }, y, side, other, between_down h.edges x y e lt at))
    reached _ _ (by_second m x y touched low lt first second) below e at =
        let (k, side) = place_of h.edges (record { low = m; high = y }) ((sound.edges.exact m y).1 (omega (arith, low, lt), second)) in
        let other : HasEdge h.edges m x = (sound.edges.exact m x).1 (low, first) in
        let before = reached m y touched (omega (arith, low, below)) k side in
        done_below x y e below at (s.above k e before (record { low = m; high = y }, x, side, other, between_up h.edges x y e lt at))

  -- where none is held any more, the edges taken out are the touched ones
  pub spreading_end : ((e rank : ℕ) → IsHeld buckets e rank → ⊥) → (e : ℕ) → IsDone buckets e ↔ IsTouchedEdge h edit e
  spreading_end none e =
      ((λ d. s.done e d), λ t. reached (t.0.low + 1) (λ f rank held. absurd (none f rank held)) t.0.low t.0.high t.2 (omega arith) e t.1)
