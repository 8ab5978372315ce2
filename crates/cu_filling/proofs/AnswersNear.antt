-- No answer is later than some time after its departure.
use Rattle.std.proofs.Common.{◌≡◌, ◌≤◌, ◌<◌, ◌+◌, ◌^◌, ◌∙◌, ℕ, List, [], ◌∷◌, Some, false, ltb, sym, arith, inl, inr, length, get_or, min}
use Rattle.std.specs.Prelude.{slice_get}
use Rattle.std.proofs.lemmas.Bool.{cases_lt}
use Rattle.std.proofs.lemmas.Option.{slice_get-get_or}
use Rattle.cu_chordal.specs.declared.graph.Ends.{Ends}
use Rattle.cu_interval.specs.declared.ways.Dir.{Dir}
use Rattle.cu_interval.specs.declared.ways.Entry.{Entry}
use Rattle.cu_interval.specs.declared.relaxing.Relaxed.{Relaxed}
use Rattle.cu_interval.specs.declared.relaxing.Relaxed.TheVariants.{At, NoWay, Long}
use Rattle.cu_interval.specs.Calls.{IfAt}
use Rattle.cu_interval.specs.Hierarchies.{HierarchyValue, IsHierarchy, end_of, list_from, start_of}
use Rattle.cu_interval.specs.Unpacking.{answer_by, relaxed, unpacked_walk}
use Rattle.cu_interval.proofs.EndsLaws.{ends_apart, ends_range}
use Rattle.cu_interval.proofs.Near.{below-near}
use Rattle.cu_interval.proofs.Unpacked.{unpacked-low}
use Rattle.cu_filling.proofs.ListDrives.{answer_onward, relaxed_by, walk_of}

-- an answer that arrives is by a walk that isn't too long
short_walk : (h : HierarchyValue) (es : List Entry) (walk : List ℕ) (t x : ℕ) → answer_by h es walk t ≡ At x → length walk < h.network.nodes
short_walk h [] walk t x e = absurd (cc e)
short_walk h (entry ∷ es) walk t x e = elim (cases_lt (length walk) h.network.nodes) [
  | inl lt ↦ lt
  | inr ge ↦
      let long : ltb (length walk) h.network.nodes ≡ false = grind (arith, ge) in
      let other : Long ≡ At x = rw long at e in
      absurd (cc other)
]

module _ (h : HierarchyValue) (f : IsHierarchy h) where
  pub ends_at : (edge : ℕ) → edge < length h.edges → (ends : Ends) × (slice_get h.edges edge ≡ Some ends)
  ends_at edge lt = let d : Ends = record { low = 0; high = 0 } in (get_or h.edges edge d, slice_get-get_or h.edges edge d lt)

  -- no answer is later than this
  pub answer_near : (edge : ℕ) (dir : Dir) (t x : ℕ) → edge < length h.edges → relaxed h edge dir t ≡ At x → (t ≤ x) × (x ≤ t + 2 ^ 38)
  answer_near edge dir t x inside e =
      let (ends, at) = ends_at edge inside in
      let u = start_of ends dir in
      let v = end_of ends dir in
      let (some, drives) = walk_of h f edge dir ends at t x e in
      let range = ends_range h f edge ends at in
      let apart = ends_apart ends dir range.0 in
      let low = unpacked-low h f u v t apart some in
      let near = below-near h.network h.order f.network (min u v) u (unpacked_walk h u v t) v t low.1 in
      let short = short_walk h (list_from h u v) (unpacked_walk h u v t) t x (sym (relaxed_by h f edge dir ends at t) ∙ e) in
      let few = f.graph.few_ranks in
      (answer_onward h f edge dir ends at t x e, omega (arith, near, drives, short, few))

-- no answer is late
pub relaxed_near : (h : HierarchyValue) → IsHierarchy h → (edge : ℕ) (dir : Dir) (t : ℕ) (answer : Relaxed) → edge < length h.edges → answer ≡ relaxed h edge dir t
    → IfAt answer (λ (arrival : ℕ). (t ≤ arrival) × (arrival ≤ t + 2 ^ 38))
relaxed_near h f edge dir t (At x) inside e = answer_near h f edge dir t x inside (sym e)
relaxed_near h f edge dir t NoWay inside e = tt
relaxed_near h f edge dir t Long inside e = tt
