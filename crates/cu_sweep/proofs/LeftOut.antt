-- A call that is left out leaves labels and links as they are; and no answer is late.
use Rattle.std.proofs.Common.{◌≡◌, ◌≢◌, ◌≤◌, ◌+◌, ◌*◌, ◌^◌, ℕ, List, [], ◌∷◌, Option, Some, None, refl, arith, inl, inr, ltb, true, false, length, min}
use Rattle.std.specs.Prelude.{slice_get}
use Rattle.std.proofs.lemmas.Bool.{cases_lt, leb-true}
use Rattle.cu_model.specs.declared.limits.TheConstants.{MAX_NODES, MAX_UNTIL}
use Rattle.cu_model.specs.Roads.{drive}
use Rattle.cu_chordal.specs.declared.graph.Ends.{Ends}
use Rattle.cu_interval.specs.declared.ways.Dir.{Dir}
use Rattle.cu_interval.specs.declared.ways.Entry.{Entry}
use Rattle.cu_interval.specs.declared.relaxing.Relaxed.{Relaxed}
use Rattle.cu_interval.specs.declared.relaxing.Relaxed.TheVariants.{At, NoWay, Long}
use Rattle.cu_interval.specs.Calls.{IfAt}
use Rattle.cu_interval.specs.Hierarchies.{HierarchyValue, IsHierarchy, list_from, start_of, end_of}
use Rattle.cu_interval.specs.Unpacking.{answer_by, relaxed, relaxed_ends, unpacked_walk}
use Rattle.cu_interval.proofs.EndsLaws.{ends_apart, ends_range}
use Rattle.cu_interval.proofs.Near.{below-near}
use Rattle.cu_interval.proofs.Unpacked.{unpacked-low}
use Rattle.cu_sweep.specs.Sweeps.{is_by}
use Rattle.cu_sweep.specs.Places.{second_at}
use Rattle.cu_sweep.specs.Steps.Sweeping.{is_earlier, links_after, seconds_after}

not_earlier : (o : Option ℕ) (soonest arrival : ℕ) → is_by o soonest ≡ true → soonest ≤ arrival → is_earlier arrival o ≡ false
not_earlier None soonest arrival e le = absurd (cc e)
not_earlier (Some second) soonest arrival e le = let by = leb-true second soonest e in grind (arith, by, le)

module _ (labels : List (Option ℕ)) (into soonest : ℕ) (by : is_by (second_at labels into) soonest ≡ true) where
  pub seconds_left : (r : Relaxed) → ((s : ℕ) → r ≡ At s → soonest ≤ s) → seconds_after labels into r ≡ labels
  seconds_left (At arrival) late = let e = not_earlier (second_at labels into) soonest arrival by (late arrival refl) in rw e refl
  seconds_left NoWay late = refl
  seconds_left Long late = refl

  pub links_left : (links : List (Option (ℕ × ℕ))) (from edge : ℕ) (r : Relaxed) → ((s : ℕ) → r ≡ At s → soonest ≤ s) → links_after labels links from edge into r ≡ links
  links_left links from edge (At arrival) late = let e = not_earlier (second_at labels into) soonest arrival by (late arrival refl) in rw e refl
  links_left links from edge NoWay late = refl
  links_left links from edge Long late = refl

answer_near : (h : HierarchyValue) (entries : List Entry) (walk : List ℕ) (t : ℕ) → (entries ≢ [] → drive h.network walk t ≤ t + MAX_UNTIL * length walk) → h.network.nodes ≤ MAX_NODES
    → IfAt (answer_by h entries walk t) (λ (arrival : ℕ). arrival ≤ t + 2 ^ 38)
answer_near h [] walk t near few = tt
answer_near h (entry ∷ entries) walk t near few =
    elim (cases_lt (length walk) h.network.nodes) [
      | inl short ↦
          let is : ltb (length walk) h.network.nodes ≡ true = grind (arith, short) in
          let le = near (λ none. absurd (cc none)) in
          let most : drive h.network walk t ≤ t + 2 ^ 38 = omega (arith, le, few, short) in
          rw is most
      | inr long ↦
          let is : ltb (length walk) h.network.nodes ≡ false = grind (arith, long) in
          rw is tt
    ]

-- no answer is late
pub relaxed_near : (h : HierarchyValue) → IsHierarchy h → (edge : ℕ) (dir : Dir) (t : ℕ) → IfAt (relaxed h edge dir t) (λ (arrival : ℕ). arrival ≤ t + 2 ^ 38)
relaxed_near h f edge dir t = ends_near (slice_get h.edges edge) refl
  where
    ends_near : (o : Option Ends) → slice_get h.edges edge ≡ o → IfAt (relaxed_ends h o dir t) (λ (arrival : ℕ). arrival ≤ t + 2 ^ 38)
    ends_near None at = tt
    ends_near (Some ends) at =
        let u = start_of ends dir in
        let v = end_of ends dir in
        let range = ends_range h f edge ends at in
        let apart = ends_apart ends dir range.0 in
        answer_near h (list_from h u v) (unpacked_walk h u v t) t
        (λ some. below-near h.network h.order f.network (min u v) u (unpacked_walk h u v t) v t (unpacked-low h f u v t apart some).1) f.network.few_nodes
