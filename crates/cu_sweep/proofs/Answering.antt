-- What a query finds is the answer on the roads.
use Rattle.std.proofs.Common.{◌≡◌, ◌<◌, ◌∙◌, ℕ, List, [], ◌∷◌, Option, Some, None, eqb, true, refl, sym, ap, subst, arith}
use Rattle.std.specs.Prelude.{slice_get}
use Rattle.std.proofs.lemmas.Option.{none-some, same_Some}
use Rattle.cu_model.specs.Days.{day}
use Rattle.cu_model.specs.Networks.{NetworkValue}
use Rattle.cu_model.specs.Roads.{IsWalk, drive}
use Rattle.cu_chordal.specs.declared.graph.Ends.{Ends}
use Rattle.cu_interval.specs.declared.ways.Dir.{Dir}
use Rattle.cu_interval.specs.declared.relaxing.Call.{Call}
use Rattle.cu_interval.specs.declared.relaxing.Relaxed.{Relaxed}
use Rattle.cu_interval.specs.declared.relaxing.Relaxed.TheVariants as relaxed_to
use Rattle.cu_interval.specs.Hierarchies.{HierarchyValue, IsBuilt, IsHierarchy, start_of, end_of, graph_of}
use Rattle.cu_interval.specs.Unpacking.{relaxed, relaxed_ends}
use Rattle.cu_short.specs.Shortness.{NeverLong}
use Rattle.cu_unpack.specs.Answers.{IsLowAnswer}
use Rattle.cu_unpack.proofs.Built.{relaxed_built}
use Rattle.cu_sweep.specs.declared.finding.Found.TheVariants.{Arrive}
use Rattle.cu_sweep.specs.Labels.{Label, down_label, start_label, up_label}
use Rattle.cu_sweep.specs.Sweeps.{answered, first_long, found, found_by, long_or, second_of, sweep_calls}
use Rattle.cu_sweep.specs.Desks.{roads_of}
use Rattle.cu_sweep.specs.Answers.{IsAnswer, IsLeastWhereBuilt, IsReal}
use Rattle.cu_sweep.specs.Swept.{Sweep}
use Rattle.cu_sweep.specs.ToAll.{IsTime, reach_calls}
use Rattle.cu_sweep.proofs.Ancestry.{own_ancestor}
use Rattle.cu_sweep.proofs.RankWalks.{ranks_of_walk, walk_of_ranks}
use Rattle.cu_sweep.proofs.Reaching.{IsReachedBy, sweeps_reach}
use Rattle.cu_sweep.proofs.RealLabels.{down_label-leads}
use Rattle.cu_sweep.proofs.SweptLabels.{earlier_first, swept}

-- each downward label is the arrival of a walk, the roads of its calls in their order
pub label_real : (h : HierarchyValue) → IsHierarchy h → (from to second : ℕ)
    → from < h.network.nodes → to < h.network.nodes → second < day
    → (label : Label) → down_label h from second to ≡ Some label
    → IsReal h from to second label.calls (Arrive label.second)
label_real h f from to second a b c label e u v start stop =
    let leads = down_label-leads h f from second to label e in
    (walk_of_ranks h.network h.order f.order from to u (roads_of h label.calls) v start stop leads.0, leads.1)

not_long : (h : HierarchyValue) → IsBuilt h → (edge : ℕ) (dir : Dir) (t : ℕ) (o : Option Ends)
    → slice_get h.edges edge ≡ o → relaxed h edge dir t ≡ relaxed_to.Long → ⊥
not_long h f edge dir t None at e =
    let none : relaxed_to.NoWay ≡ relaxed_to.Long = sym (ap (λ (o : Option Ends). relaxed_ends h o dir t) at) ∙ e in
    absurd (cc none)
not_long h f edge dir t (Some ends) at e =
    subst (IsLowAnswer h.network h.order (start_of ends dir) (end_of ends dir) t) e
    (relaxed_built h edge dir t (relaxed h edge dir t) refl f ends at)

-- in a built hierarchy no walk is too long
pub built_never_long : (h : HierarchyValue) → IsBuilt h → NeverLong h
built_never_long h f edge dir t = not_long h f edge dir t (slice_get h.edges edge) refl

none_long_by : (r : Relaxed) (call : Call) (rest : Option Call)
    → (r ≡ relaxed_to.Long → ⊥) → rest ≡ None → long_or r call rest ≡ None
none_long_by (relaxed_to.At s) call rest short none = none
none_long_by relaxed_to.NoWay call rest short none = none
none_long_by relaxed_to.Long call rest short none = absurd (short refl)

-- where no walk is too long, no call is answered by one
pub none_long : (h : HierarchyValue) → NeverLong h → (calls : List Call) → first_long h calls ≡ None
none_long h short [] = refl
none_long h short (call ∷ calls) =
    none_long_by (answered h call) call (first_long h calls) (short call.edge call.dir call.second) (none_long h short calls)

-- the start is reached at once
start_reached : (h : HierarchyValue) (from second : ℕ) → IsReachedBy (second_of (up_label h from second from)) second
start_reached h from second =
    let here : eqb from from ≡ true = grind arith in
    let start : start_label from second from ≡ Some (record { second = second; calls = [] }) = rw here refl in
    earlier_first (start_label from second from) _ second (second, ap second_of start, omega arith)

-- two ranks are those of the nodes u and v
record IsBetween (h : HierarchyValue) (from to u v : ℕ) : Type 0 where
  begins : from < h.network.nodes
  ends : to < h.network.nodes
  start : slice_get h.order.node_at from ≡ Some u
  stop : slice_get h.order.node_at to ≡ Some v

module _ (h : HierarchyValue) (f : IsBuilt h) (from to second u v : ℕ) (b : IsBetween h from to u v) where
  -- in a built hierarchy the end's label is no later than any walk
  label_least : (walk : List ℕ) → IsWalk h.network u walk v → IsReachedBy (second_of (down_label h from second to)) (drive h.network walk second)
  label_least walk w =
      let q : Sweep = record { from = from; second = second; path = [] } in
      let n = f.sound.network in
      let within = b.begins in
      let own = own_ancestor (graph_of h) in
      let between = ranks_of_walk h.network h.order n f.sound.order f.sound.same from to u walk v b.start b.stop w in
      sweeps_reach h.network h.order n _ _ _ _ (swept h f q to (omega (arith, within))) from to second walk
      (own from b.begins) (own to b.ends) (start_reached h from second) between

  answer_by_label : second < day → (o : Option Label) → down_label h from second to ≡ o → IsAnswer h.network u v second (found_by None o)
  answer_by_label in_day None e = λ walk w.
      let (s, is, le) = label_least walk w in
      none-some s (sym (ap second_of e) ∙ is)
  answer_by_label in_day (Some label) e =
      let real = label_real h f.sound from to second b.begins b.ends in_day label e u v b.start b.stop in
      record {
        reached = (roads_of h label.calls, real.0, real.1);
        least = λ walk w.
            let (s, is, le) = label_least walk w in
            let same : label.second ≡ s = same_Some label.second s (sym (ap second_of e) ∙ is) in
            omega (arith, same, le);
      }

-- over a built hierarchy the downward label of a rank says the least arrival at its node, and there is none only where there is no walk
pub label_is_least : (h : HierarchyValue) → IsBuilt h → (from to second : ℕ) → from < h.network.nodes → to < h.network.nodes → second < day
    → (u v : ℕ) → slice_get h.order.node_at from ≡ Some u → slice_get h.order.node_at to ≡ Some v
    → IsAnswer h.network u v second (found_by None (down_label h from second to))
label_is_least h built from to second a b c u v start stop =
    answer_by_label h built from to second u v (record { begins = a; ends = b; start = start; stop = stop }) c (down_label h from second to) refl

time_of_answer : (g : NetworkValue) (u v t : ℕ) (o : Option Label) → IsAnswer g u v t (found_by None o) → IsTime g u v t (second_of o)
time_of_answer g u v t None answer = answer
time_of_answer g u v t (Some label) answer = answer

-- over a built hierarchy the second of a rank's downward label is the least arrival at its node, and there is none exactly where there is no walk
pub label_time : (h : HierarchyValue) → IsBuilt h → (from rank second : ℕ) → from < h.network.nodes → rank < h.network.nodes → second < day
    → (u v : ℕ) → slice_get h.order.node_at from ≡ Some u → slice_get h.order.node_at rank ≡ Some v
    → IsTime h.network u v second (second_of (down_label h from second rank))
label_time h built from rank second a b c u v start stop =
    time_of_answer h.network u v second (down_label h from second rank) (label_is_least h built from rank second a b c u v start stop)

-- and no walk of a reach call is too long
pub reach_short : (h : HierarchyValue) → IsBuilt h → (from second : ℕ) → first_long h (reach_calls h from second) ≡ None
reach_short h built from second = none_long h (built_never_long h built) (reach_calls h from second)

-- so a query finds the least arrival, or that there is no walk
pub found_least : (h : HierarchyValue) → IsHierarchy h → (from to second : ℕ)
    → from < h.network.nodes → to < h.network.nodes → second < day
    → IsLeastWhereBuilt h from to second (found h from to second)
found_least h f from to second a b c built u v start stop =
    let label = down_label h from second to in
    subst (λ (o : Option Call). IsAnswer h.network u v second (found_by o label)) (sym (none_long h (built_never_long h built) (sweep_calls h from to second)))
    (label_is_least h built from to second a b c u v start stop)
