-- The walk of a relaxation that arrives, by its list.
use Rattle.std.proofs.Common.{◌≡◌, ◌≢◌, ◌<◌, ◌%◌, ◌∙◌, ℕ, List, [], ◌∷◌, Option, Some, false, ltb, sym, ap, arith, inl, inr, length}
use Rattle.std.proofs.lemmas.Bool.{cases_lt}
use Rattle.std.specs.Prelude.{slice_get}
use Rattle.cu_model.specs.Days.{day}
use Rattle.cu_chordal.specs.declared.graph.Ends.{Ends}
use Rattle.cu_interval.specs.declared.ways.Dir.{Dir}
use Rattle.cu_interval.specs.declared.ways.Entry.{Entry}
use Rattle.cu_interval.specs.declared.relaxing.Relaxed.TheVariants.{At, Long}
use Rattle.cu_interval.specs.Hierarchies.{HierarchyValue, IsHierarchy, start_of, end_of, list_from, list_number}
use Rattle.cu_interval.specs.Unpacking.{answer_by, unpacked_walk}
use Rattle.cu_unpack.specs.Answers.{IsArriving, walk_between, walk_over}
use Rattle.cu_recall.specs.Spans.{IsListFrom}
use Rattle.cu_recall.specs.Steps.Looks.{edge_asked}
use Rattle.cu_recall.specs.Steps.Walks.{IsShortWalk}
use Rattle.cu_recall.proofs.Answering.{relaxed_list}
use Rattle.cu_interval.proofs.DayWalks.{walk_on}
use Rattle.cu_recall.proofs.ListEnds.{edge_list, number_dir, number_edge}

-- where a list arrives it has a way, and its walk is short
answer_short : (h : HierarchyValue) (entries : List Entry) (walk : List ℕ) (t s : ℕ) → answer_by h entries walk t ≡ At s → (entries ≢ []) × (length walk < h.network.nodes)
answer_short h [] walk t s e = absurd (cc e)
answer_short h (entry ∷ entries) walk t s e =
    elim (cases_lt (length walk) h.network.nodes) [
      | inl short ↦ ((λ none. absurd (cc none)), short)
      | inr long ↦
          let is : ltb (length walk) h.network.nodes ≡ false = grind (arith, long) in
          let other : Long ≡ At s = rw is at e in
          absurd (cc other)
    ]

module _ (h : HierarchyValue) (f : IsHierarchy h) (edge : ℕ) (dir : Dir) (t : ℕ) where
  -- the walk of an edge in a direction is that of its list at the second of the day
  pub walk_asked : (u v : ℕ) → IsListFrom h (list_number edge dir) u v → unpacked_walk h u v (t % day) ≡ walk_over h edge dir t
  walk_asked u v (ends, at, from, to) =
      let there : slice_get h.edges edge ≡ Some ends = sym (ap (slice_get h.edges) (number_edge edge dir)) ∙ at in
      let way = number_dir edge dir in
      sym (walk_on h f u v t)
      ∙ ap (λ (y : ℕ). unpacked_walk h u y t) (to ∙ ap (end_of ends) way)
      ∙ ap (λ (x : ℕ). unpacked_walk h x (end_of ends dir) t) (from ∙ ap (start_of ends) way)
      ∙ sym (ap (λ (o : Option Ends). walk_between h o dir t) there)

  pub short_walk : edge < length h.edges → IsArriving h edge dir t → IsShortWalk h (edge_asked edge dir t)
  short_walk inside answers =
      let (u, v, is) = edge_list h edge dir inside in
      let some = (answer_short h (list_from h u v) (unpacked_walk h u v t) t answers.0 (sym (relaxed_list h edge dir t u v is) ∙ answers.1)).0 in (
        (u, v, is, some, omega arith),
        λ x y at.
            let less = (answer_short h (list_from h x y) (unpacked_walk h x y t) t answers.0 (sym (relaxed_list h edge dir t x y at) ∙ answers.1)).1 in
            let same : length (unpacked_walk h x y t) ≡ length (unpacked_walk h x y (t % day)) = ap length (walk_on h f x y t) in
            omega (arith, less, same),
      )
