-- The two sweeps together leave the day function at the end.
use Rattle.std.proofs.Common.{◌≡◌, ◌≢◌, ◌<◌, ◌-◌, ◌∙◌, ℕ, zero, suc, List, [], ◌∷◌, Option, Some, None, refl, sym, ap, subst, arith, inl, inr, length, reverse, Bool, true, false}
use Rattle.std.specs.Prelude.{IfSome, slice_get, if◌then◌else◌, ◌==◌}
use Rattle.std.specs.List.{Contains}
use Rattle.std.proofs.lemmas.Bool.{eqb-true}
use Rattle.std.proofs.lemmas.List.Elements.{Contains-append_cases, Contains-append_left, Contains-append_right}
use Rattle.std.proofs.lemmas.List.FromFn.{length-map-range_with_len}
use Rattle.cu_model.specs.Days.{day}
use Rattle.cu_arrival.specs.declared.runs.Run.{Run}
use Rattle.cu_arrival.specs.Runs.{IsArrivalFunction, arrival_value}
use Rattle.cu_chordal.specs.Graphs.{ChordalValue, parent_of, up_of}
use Rattle.cu_chordal.proofs.Members.{here, member_cases, none_in_nil}
use Rattle.cu_chordal.proofs.Tables.{edge_from_up_of, up_of_from_edge}
use Rattle.cu_elimtree.specs.SweepArcs.{ancestors_in, parents_in}
use Rattle.cu_interval.specs.declared.ways.Entry.{Entry}
use Rattle.cu_interval.specs.Hierarchies.{HierarchyValue, graph_of, list_from}
use Rattle.cu_day.specs.DayAnswers.{IsLeastWhereBuilt}
use Rattle.cu_day.specs.DayChains.{GoesDown, GoesUp, IsDayFunction, list_drive}
use Rattle.cu_day.specs.Steps.Sweeping.{Always, Arc, AreSound, BeginsAs, BeginsAt, DownSwept, IsSwept, Over, UpSwept, arc, arc_if}
use Rattle.cu_day.specs.Steps.Sweeping.{arc_over, arcs_down, arcs_down_all, arcs_up, arcs_up_all, label_at, value_at}
use Rattle.cu_day.specs.Steps.Ranks.{AreBegun, HasSwept}
use Rattle.cu_day.proofs.Arcs.{swept_same}
use Rattle.cu_day.proofs.BuiltDays.{least_arrival, no_walk}
use Rattle.cu_day.proofs.LeastChains.{all_counted, least_chain, no_chain}
use Rattle.cu_sweep.proofs.Behind.{turned_back, turned_member}
use Rattle.cu_day.proofs.Ranked.{all_down_starts, all_up_starts}
use Rattle.cu_day.proofs.Spreading.{ends_of}

-- a graph's tree has its ranks
pub tree_long : (graph : ChordalValue) (parents : List (Option ℕ)) → parents ≡ parents_in graph → length parents ≡ graph.ranks
tree_long graph parents e = ap length e ∙ length-map-range_with_len (parent_of graph.edges) 0 graph.ranks

-- an arc is there only where its list isn't empty
if_some : (entries : List Entry) (x y : ℕ) (a : Arc) → Contains (arc_if entries x y) a → entries ≢ []
if_some [] x y a c none = none_in_nil a c
if_some (entry ∷ entries) x y a c none = absurd (cc none)

over_some : (h : HierarchyValue) (x y : ℕ) (a : Arc) → Contains (arc_over h x y) a → list_from h a.start a.end ≢ []
over_some h x y a c =
    let e = ends_of (list_from h x y) x y a c in
    subst (λ (n : ℕ). list_from h n a.end ≢ []) (sym e.0) (subst (λ (n : ℕ). list_from h x n ≢ []) (sym e.1) (if_some (list_from h x y) x y a c))

up_some : (h : HierarchyValue) (x : ℕ) (part : List ℕ) (a : Arc) → Contains (arcs_up h x part) a → list_from h a.start a.end ≢ []
up_some h x [] a c = absurd (none_in_nil a c)
up_some h x (y ∷ part) a c = elim
    (Contains-append_cases (arc_over h x y) (arcs_up h x part) a c) [ inl first ↦ over_some h x y a first | inr rest ↦ up_some h x part a rest ]

down_some : (h : HierarchyValue) (x : ℕ) (part : List ℕ) (a : Arc) → Contains (arcs_down h x part) a → list_from h a.start a.end ≢ []
down_some h x [] a c = absurd (none_in_nil a c)
down_some h x (y ∷ part) a c = elim
    (Contains-append_cases (arc_over h y x) (arcs_down h x part) a c) [ inl first ↦ over_some h y x a first | inr rest ↦ down_some h x part a rest ]

all_up_some : (h : HierarchyValue) (ranks : List ℕ) (a : Arc) → Contains (arcs_up_all h ranks) a → list_from h a.start a.end ≢ []
all_up_some h [] a c = absurd (none_in_nil a c)
all_up_some h (x ∷ ranks) a c =
    elim (Contains-append_cases (arcs_up h x (up_of h.edges x)) (arcs_up_all h ranks) a c) [
      | inl first ↦ up_some h x
          (up_of h.edges x) a first
      | inr rest ↦ all_up_some h ranks a rest
    ]

all_down_some : (h : HierarchyValue) (ranks : List ℕ) (a : Arc) → Contains (arcs_down_all h ranks) a → list_from h a.start a.end ≢ []
all_down_some h [] a c = absurd (none_in_nil a c)
all_down_some h (x ∷ ranks) a c =
    elim (Contains-append_cases (arcs_down h x (up_of h.edges x)) (arcs_down_all h ranks) a c) [
      | inl first ↦ down_some h x
          (up_of h.edges x) a first
      | inr rest ↦ all_down_some h ranks a rest
    ]

-- and it is there where its list isn't
there_if : (entries : List Entry) (x y : ℕ) → entries ≢ [] → Contains (arc_if entries x y) (arc x y)
there_if [] x y some = absurd (some refl)
there_if (entry ∷ entries) x y some = here (arc x y) []

there_up : (h : HierarchyValue) (x y : ℕ) (part : List ℕ) → Contains part y → list_from h x y ≢ [] → Contains (arcs_up h x part) (arc x y)
there_up h x y [] c some = absurd (none_in_nil y c)
there_up h x y (z ∷ part) c some = elim (member_cases z part y c) [
  | inl same ↦ Contains-append_left (arc_over h x z) (arcs_up h x part) (arc x y)
      (subst (λ (n : ℕ). Contains (arc_over h x n) (arc x y)) (sym same) (there_if (list_from h x y) x y some))
  | inr rest ↦ Contains-append_right (arc_over h x z) (arcs_up h x part) (arc x y) (there_up h x y part rest some)
]

there_down : (h : HierarchyValue) (x y : ℕ) (part : List ℕ) → Contains part y → list_from h y x ≢ [] → Contains (arcs_down h x part) (arc y x)
there_down h x y [] c some = absurd (none_in_nil y c)
there_down h x y (z ∷ part) c some = elim (member_cases z part y c) [
  | inl same ↦ Contains-append_left (arc_over h z x) (arcs_down h x part) (arc y x)
      (subst (λ (n : ℕ). Contains (arc_over h n x) (arc y x)) (sym same) (there_if (list_from h y x) y x some))
  | inr rest ↦ Contains-append_right (arc_over h z x) (arcs_down h x part) (arc y x) (there_down h x y part rest some)
]

there_up_all : (h : HierarchyValue) (x y : ℕ) (ranks : List ℕ) → Contains ranks x → Contains (up_of h.edges x) y → list_from h x y ≢ []
    → Contains (arcs_up_all h ranks) (arc x y)
there_up_all h x y [] c up some = absurd (none_in_nil x c)
there_up_all h x y (z ∷ ranks) c up some = elim (member_cases z ranks x c) [
  | inl same ↦ Contains-append_left (arcs_up h z (up_of h.edges z)) (arcs_up_all h ranks) (arc x y)
      (subst (λ (n : ℕ). Contains (arcs_up h n (up_of h.edges n)) (arc x y)) (sym same) (there_up h x y (up_of h.edges x) up some))
  | inr rest ↦ Contains-append_right (arcs_up h z (up_of h.edges z)) (arcs_up_all h ranks) (arc x y) (there_up_all h x y ranks rest up some)
]

there_down_all : (h : HierarchyValue) (x y : ℕ) (ranks : List ℕ) → Contains ranks x → Contains (up_of h.edges x) y → list_from h y x ≢ []
    → Contains (arcs_down_all h ranks) (arc y x)
there_down_all h x y [] c up some = absurd (none_in_nil x c)
there_down_all h x y (z ∷ ranks) c up some = elim (member_cases z ranks x c) [
  | inl same ↦ Contains-append_left (arcs_down h z (up_of h.edges z)) (arcs_down_all h ranks) (arc y x)
      (subst (λ (n : ℕ). Contains (arcs_down h n (up_of h.edges n)) (arc y x)) (sym same) (there_down h x y (up_of h.edges x) up some))
  | inr rest ↦ Contains-append_right (arcs_down h z (up_of h.edges z)) (arcs_down_all h ranks) (arc y x) (there_down_all h x y ranks rest up some)
]

-- the arcs are those of day chains
pub up_goes : (h : HierarchyValue) (from x y : ℕ) → Over (arcs_up_all h (ancestors_in (graph_of h) from)) x y → GoesUp h from x y
up_goes h from x y c =
    let e = all_up_starts h (ancestors_in (graph_of h) from) (arc x y) c in
    ((e.0, edge_from_up_of h.edges x y e.1), all_up_some h (ancestors_in (graph_of h) from) (arc x y) c)

pub goes_up : (h : HierarchyValue) (from x y : ℕ) → GoesUp h from x y → Over (arcs_up_all h (ancestors_in (graph_of h) from)) x y
goes_up h from x y goes = there_up_all h x y (ancestors_in (graph_of h) from) goes.0.0 (up_of_from_edge h.edges x y goes.0.1) goes.1

pub down_goes : (h : HierarchyValue) (to x y : ℕ) → Over (arcs_down_all h (reverse (ancestors_in (graph_of h) to))) x y → GoesDown h to x y
down_goes h to x y c =
    let e = all_down_starts h (reverse (ancestors_in (graph_of h) to)) (arc x y) c in (
      (turned_back (ancestors_in (graph_of h) to) y e.0, edge_from_up_of h.edges y x e.1),
      all_down_some h (reverse (ancestors_in (graph_of h) to))
          (arc x y) c,
    )

pub goes_down : (h : HierarchyValue) (to x y : ℕ) → GoesDown h to x y → Over (arcs_down_all h (reverse (ancestors_in (graph_of h) to))) x y
goes_down h to x y goes = there_down_all h y x (reverse (ancestors_in (graph_of h) to)) (turned_member (ancestors_in (graph_of h) to) y goes.0.0)
    (up_of_from_edge h.edges y x goes.0.1) goes.1

-- the sweeps begin
begins_by : (b : Bool) (rank from t a : ℕ) → (b ≡ true → rank ≡ from) → (if b then Some t else None) ≡ Some a → (rank ≡ from) × (a ≡ t)
begins_by true rank from t a same e = (same refl, let is : t ≡ a = cc e in sym is)
begins_by false rank from t a same e = absurd (cc e)

begun_by : (b : Bool) (t : ℕ) → b ≡ true → (if b then Some t else None) ≡ Some t
begun_by true t e = refl
begun_by false t e = absurd (cc e)

pub up_begun : (Counts : ℕ → ℕ → ℕ → Type 0) (h : HierarchyValue) (ranks from : ℕ) (labels : List (Option (List Run))) → AreBegun ranks from labels → UpSwept Counts h from [] labels
up_begun Counts h ranks from labels begun t within = record {
  turns = λ x y c. absurd (none_in_nil (arc x y) c);
  came = λ y a e. inl (begins_by (y == from) y from t a (eqb-true y from) (sym (begun.start t y within) ∙ e));
  begun = λ y b begins. (
    b,
    subst (λ (n : ℕ). label_at labels t y ≡ Some n) (sym begins.1)
        (begun.start t y within ∙ begun_by (y == from) t (same_test y from begins.0)),
    omega arith,
  );
  led = λ x y b s e c le counts. absurd (none_in_nil (arc x y) c);
} where
  same_test : (x y : ℕ) → x ≡ y → (x == y) ≡ true
  same_test x y e = grind (arith, e)

pub down_begun : (Counts : ℕ → ℕ → ℕ → Type 0) (h : HierarchyValue) (labels : List (Option (List Run))) → DownSwept Counts h labels [] labels
down_begun Counts h labels t within = record {
  turns = λ x y c. absurd (none_in_nil (arc x y) c);
  came = λ y a e. inl e;
  begun = λ y b begins. (b, begins, omega arith);
  led = λ x y b s e c le counts. absurd (none_in_nil (arc x y) c);
}

-- what is there is an arrival function
sound_at : (labels : List (Option (List Run))) (rank : ℕ) (runs : List Run) → AreSound labels → slice_get labels rank ≡ Some (Some runs)
    → IsArrivalFunction runs
sound_at [] rank runs all e = absurd (cc e)
sound_at (label ∷ labels) zero runs all e =
    let is : label ≡ Some runs = cc e in
    subst (λ (o : Option (List Run)). IfSome o IsArrivalFunction) is (all 0 label (omega arith))
sound_at (label ∷ labels) (suc rank) runs all e = sound_at labels rank runs (λ k d lt. all (suc k) d (omega (arith, lt))) e

module _ (CountsUp CountsDown : ℕ → ℕ → ℕ → Type 0) (h : HierarchyValue) (from to : ℕ) (downs : List (Option (List Run)))
    (swept : HasSwept CountsUp CountsDown h from to downs) where
  pub swept_up : (t : ℕ) → t < day → IsSwept (CountsUp t) (GoesUp h from) (list_drive h) (λ x. x) (BeginsAt from t) (label_at swept.ups t)
  swept_up t within = swept_same (CountsUp t) (Over (arcs_up_all h (ancestors_in (graph_of h) from))) (GoesUp h from) (list_drive h) (λ x. x) (BeginsAt from t)
      (label_at swept.ups t) (up_goes h from) (goes_up h from)
      (swept.up.swept from (up_begun CountsUp h swept.ranks from swept.first swept.begun) t within)

  pub swept_down : (t : ℕ) → t < day → IsSwept (CountsDown t) (GoesDown h to) (list_drive h) (λ x. h.network.nodes - x) (BeginsAs (label_at swept.ups t))
      (label_at downs t)
  swept_down t within = swept_same (CountsDown t) (Over (arcs_down_all h (reverse (ancestors_in (graph_of h) to)))) (GoesDown h to) (list_drive h)
      (λ x. h.network.nodes - x) (BeginsAs (label_at swept.ups t)) (label_at downs t)
      (down_goes h to) (goes_down h to) (swept.down.2 swept.ups (down_begun CountsDown h swept.ups) t within)

  -- an arrival function that the end has
  pub end_sound : (runs : List Run) → slice_get downs to ≡ Some (Some runs) → IsArrivalFunction runs
  end_sound runs e = sound_at downs to runs (swept.down.1 (swept.up.sound swept.begun.sound)) e

module _ (h : HierarchyValue) (from to : ℕ) (downs : List (Option (List Run))) (swept : HasSwept Always Always h from to downs) where
  all_up : (t : ℕ) → t < day → IsSwept (Always t) (GoesUp h from) (list_drive h) (λ x. x) (BeginsAt from t) (label_at swept.ups t)
  all_up t within = swept_up Always Always h from to downs swept t within

  all_down : (t : ℕ) → t < day → IsSwept (Always t) (GoesDown h to) (list_drive h) (λ x. h.network.nodes - x) (BeginsAs (label_at swept.ups t))
      (label_at downs t)
  all_down t within = swept_down Always Always h from to downs swept t within

  pub day_found : (function : Option (List Run)) → slice_get downs to ≡ Some function → IsDayFunction h from to function
  day_found None e =
      let none : label_at downs 0 to ≡ None = ap (λ (o : Option (Option (List Run))). value_at o 0) e in
      no_chain h from to 0 (Always 0) (Always 0) (all_counted h from to 0) (λ x. x) (λ x. h.network.nodes - x) (label_at swept.ups 0)
      (label_at downs 0) (all_up 0 (omega arith)) (all_down 0 (omega arith)) (λ s. tt) none
  day_found (Some runs) e = (
    end_sound Always Always h from to downs swept runs e,
    λ t within.
        let at : label_at downs t to ≡ Some (arrival_value runs t) = ap (λ (o : Option (Option (List Run))). value_at o t) e in
        least_chain h from to t (Always t) (Always t) (all_counted h from to t) (λ x. x) (λ x. h.network.nodes - x) (label_at swept.ups t)
        (label_at downs t) (all_up t within) (all_down t within) (arrival_value runs t) at tt,
  )

  -- where the hierarchy is built, it has the least arrivals
  pub day_least : from < h.network.nodes → to < h.network.nodes → (function : Option (List Run)) → slice_get downs to ≡ Some function
      → IsLeastWhereBuilt h from to function
  day_least from_there to_there None e f u v at_from at_to =
      let none : label_at downs 0 to ≡ None = ap (λ (o : Option (Option (List Run))). value_at o 0) e in
      no_walk h f from to 0 (λ x. x) (λ x. h.network.nodes - x) (label_at swept.ups 0) (label_at downs 0) (all_up 0 (omega arith))
      (all_down 0 (omega arith)) from_there to_there u v at_from at_to none
  day_least from_there to_there (Some runs) e f u v at_from at_to = λ t within.
      let at : label_at downs t to ≡ Some (arrival_value runs t) = ap (λ (o : Option (Option (List Run))). value_at o t) e in
      least_arrival h f from to t (λ x. x) (λ x. h.network.nodes - x) (label_at swept.ups t) (label_at downs t) (all_up t within)
      (all_down t within)
      from_there to_there u v at_from at_to within (arrival_value runs t) at
