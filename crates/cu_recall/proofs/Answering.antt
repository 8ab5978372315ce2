-- From what driving a list takes to the answer of a relaxation.
use Rattle.std.proofs.Common.{◌≡◌, ◌≢◌, ◌≤◌, ◌<◌, ◌+◌, ◌*◌, ◌%◌, ◌∙◌, ℕ, List, [], ◌∷◌, Option, None, Some, refl, sym, ap, arith, length, min}
use Rattle.std.specs.Prelude.{slice_get}
use Rattle.cu_model.specs.declared.limits.TheConstants.{MAX_UNTIL}
use Rattle.cu_model.specs.Days.{day}
use Rattle.cu_chordal.specs.declared.graph.Ends.{Ends}
use Rattle.cu_interval.specs.declared.ways.Dir.{Dir}
use Rattle.cu_interval.specs.declared.ways.Entry.{Entry}
use Rattle.cu_interval.specs.declared.relaxing.Relaxed.TheVariants.{At, Long, NoWay}
use Rattle.cu_interval.specs.Hierarchies.{HierarchyValue, IsHierarchy, start_of, end_of, list_from, list_number, list_of}
use Rattle.cu_interval.specs.Unpacking.{answer_by, relaxed, relaxed_ends, relaxed_from, unpacked_walk}
use Rattle.cu_interval.proofs.Near.{below-near}
use Rattle.cu_interval.proofs.Unpacked.{unpacked-low}
use Rattle.cu_interval.proofs.Walks.{low_some}
use Rattle.cu_unpack.proofs.OnWay.{answer_at, answer_long}
use Rattle.cu_recall.specs.declared.spans.Driven.{Driven}
use Rattle.cu_recall.specs.Spans.{IsListFrom, WalkTakes}
use Rattle.cu_recall.specs.Windows.{HoldsDriven}
use Rattle.cu_recall.specs.Steps.InWork.{Unpacks}
use Rattle.cu_recall.specs.Steps.Looks.{IsAsked, edge_asked}
use Rattle.cu_interval.proofs.DayWalks.{walk_on}
use Rattle.cu_recall.proofs.DayWalks.{takes_on}
use Rattle.cu_recall.proofs.ListEnds.{edge_entries, edge_list, list_apart, number_dir, number_edge}

-- a walk has a road, and takes no more than eight days for each
pub takes_near : (h : HierarchyValue) → IsHierarchy h → (u v t travel roads : ℕ) → u ≢ v → WalkTakes h u v t travel roads → (0 < roads) × (travel ≤ MAX_UNTIL * roads)
takes_near h f u v t travel roads apart (some, long, arrives) =
    let low = unpacked-low h f u v t apart some in
    let one = low_some h.network h.order u (unpacked_walk h u v t) v low in
    let near = below-near h.network h.order f.network (min u v) u (unpacked_walk h u v t) v t low.1 in
    let count : MAX_UNTIL * length (unpacked_walk h u v t) ≡ MAX_UNTIL * roads = ap (λ (n : ℕ). MAX_UNTIL * n) long in
    (omega (arith, one, long), omega (arith, near, arrives, count))

answer_none : (h : HierarchyValue) (es : List Entry) (walk : List ℕ) (t : ℕ) → length es ≡ 0 → answer_by h es walk t ≡ NoWay
answer_none h [] walk t none = refl
answer_none h (x ∷ es) walk t none = absurd (omega (arith, none))

-- the answer of an edge in a direction is that of the ranks of its list
pub relaxed_list : (h : HierarchyValue) (edge : ℕ) (dir : Dir) (t u v : ℕ) → IsListFrom h (list_number edge dir) u v → relaxed h edge dir t ≡ relaxed_from h u v t
relaxed_list h edge dir t u v (ends, at, from, to) =
    let there : slice_get h.edges edge ≡ Some ends = sym (ap (slice_get h.edges) (number_edge edge dir)) ∙ at in
    let way = number_dir edge dir in
    ap (λ (o : Option Ends). relaxed_ends h o dir t) there
    ∙ ap (λ (x : ℕ). relaxed_from h x (end_of ends dir) t) (sym (from ∙ ap (start_of ends) way))
    ∙ ap (λ (y : ℕ). relaxed_from h u y t) (sym (to ∙ ap (end_of ends) way))

module _ (h : HierarchyValue) (f : IsHierarchy h) (edge : ℕ) (dir : Dir) (t : ℕ) (inside : edge < length h.edges) where
  -- what driving its list takes is what the answer says
  module _ (driven : Driven) (holds : HoldsDriven h (list_number edge dir) (t % day) driven) where
    pub driven_takes : (u v : ℕ) → IsListFrom h (list_number edge dir) u v → WalkTakes h u v t driven.travel driven.roads
    driven_takes u v is =
        let done = holds u v is in
        let some = done.window.1 in
        takes_on h f u v t driven.travel driven.roads (list_apart h f (list_number edge dir) u v is) (done.takes (t % day) (omega arith, omega (arith, some)))

    pub driven_near : driven.travel ≤ MAX_UNTIL * driven.roads
    driven_near =
        let (u, v, is) = edge_list h edge dir inside in
        (takes_near h f u v t driven.travel driven.roads (list_apart h f (list_number edge dir) u v is) (driven_takes u v is)).1

    pub driven_at : driven.roads < h.network.nodes → relaxed h edge dir t ≡ At (t + driven.travel)
    driven_at lt =
        let (u, v, is) = edge_list h edge dir inside in
        let takes = driven_takes u v is in
        let long = takes.1 in
        relaxed_list h edge dir t u v is ∙ answer_at h (list_from h u v) (unpacked_walk h u v t) t takes.0 (omega (arith, long, lt)) ∙ ap At takes.2

    pub driven_long : h.network.nodes ≤ driven.roads → relaxed h edge dir t ≡ Long
    driven_long le =
        let (u, v, is) = edge_list h edge dir inside in
        let takes = driven_takes u v is in
        let long = takes.1 in
        relaxed_list h edge dir t u v is ∙ answer_long h (list_from h u v) (unpacked_walk h u v t) t takes.0 (omega (arith, long, le))

  -- a list without ways
  pub empty_none : length (list_of h edge dir) ≡ 0 → relaxed h edge dir t ≡ NoWay
  empty_none none =
      let (u, v, is) = edge_list h edge dir inside in
      let long : length (list_from h u v) ≡ length (list_of h edge dir) = ap length (edge_entries h f edge dir u v is) in
      relaxed_list h edge dir t u v is ∙ answer_none h (list_from h u v) (unpacked_walk h u v t) t (long ∙ none)

  -- a list with ways may be asked
  module _ (many : 0 < length (list_of h edge dir)) where
    some_ways : (u v : ℕ) → IsListFrom h (list_number edge dir) u v → list_from h u v ≢ []
    some_ways u v is = λ none. let long : length (list_from h u v) ≡ length (list_of h edge dir) = ap length (edge_entries h f edge dir u v is) in absurd (omega (arith, many, long, ap length none))

    pub edge_is_asked : IsAsked h (edge_asked edge dir t)
    edge_is_asked =
        let (u, v, is) = edge_list h edge dir inside in
        (u, v, is, some_ways u v is, omega arith)

    -- whose walk is too long
    pub unpacked_long : Unpacks h (edge_asked edge dir t) None → relaxed h edge dir t ≡ Long
    unpacked_long long =
        let (u, v, is) = edge_list h edge dir inside in
        let roads = long u v is in
        let same : length (unpacked_walk h u v t) ≡ length (unpacked_walk h u v (t % day)) = ap length (walk_on h f u v t) in
        relaxed_list h edge dir t u v is ∙ answer_long h (list_from h u v) (unpacked_walk h u v t) t (some_ways u v is) (omega (arith, roads, same))
