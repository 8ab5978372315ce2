-- What is ahead of each place, and what is found in time.
use Rattle.std.proofs.Common.{◌≡◌, ◌≤◌, ◌<◌, ◌+◌, ◌-◌, ◌∙◌, ℕ, true, false, List, Option, Some, None, refl, sym, ap, subst, arith, length, ltb}
use Rattle.std.specs.Prelude.{All, IfSome}
use Rattle.std.specs.List.{Contains}
use Rattle.std.proofs.lemmas.Bool.{le-leb, leb-true}
use Rattle.std.proofs.lemmas.Option.{none-some, same_Some}
use Rattle.cu_chordal.proofs.Members.{all_from_members}
use Rattle.cu_elimtree.specs.SweepArcs.{ancestors_in}
use Rattle.cu_interval.specs.declared.relaxing.Call.{Call}
use Rattle.cu_interval.specs.declared.ways.Dir.TheVariants.{Up}
use Rattle.cu_interval.specs.Hierarchies.{HierarchyValue, IsHierarchy, graph_of}
use Rattle.cu_interval.specs.LeastBounds.{least_bound}
use Rattle.cu_interval.proofs.EndsLaws.{ends_range}
use Rattle.cu_short.specs.Shortness.{NeverLong}
use Rattle.cu_sweep.specs.declared.finding.Found.TheVariants.{Arrive}
use Rattle.cu_sweep.specs.Desks.{HoldsFound}
use Rattle.cu_sweep.specs.Labels.{Label, down_label}
use Rattle.cu_sweep.specs.Places.{AreKept, second_at}
use Rattle.cu_sweep.specs.Sweeps.{found, found_by, second_of, sweep_calls}
use Rattle.cu_sweep.specs.Swept.{IsClosed, IsReachedAs, LabelsValue, desk_of}
use Rattle.cu_sweep.specs.Outlooks.{IsAhead, ahead_at}
use Rattle.cu_sweep.specs.Steps.Ahead.{FallsOff, LeadsUp, ahead_of, is_in_time}
use Rattle.cu_sweep.specs.Steps.Made.{Led, down_made}
use Rattle.cu_sweep.proofs.Answering.{none_long}
use Rattle.cu_sweep.proofs.GoalLaws.{IsPlaced, goal_reached}
use Rattle.cu_sweep.proofs.RealLabels.{edge_numbered}

ahead_up : (up down : List ℕ) (y : ℕ) → y < length up → ahead_of up down y ≡ ahead_at up y
ahead_up up down y lt = let is : ltb y (length up) ≡ true = grind (arith, lt) in rw is refl

ahead_down : (up down : List ℕ) (n x : ℕ) → n ≡ length up → ahead_of up down (n + x) ≡ ahead_at down x
ahead_down up down n x e =
    let is : ltb (n + x) (length up) ≡ false = grind (arith, e) in
    let less : (n + x) - length up ≡ x = omega (arith, e) in
    rw is (ap (ahead_at down) less)

-- what is ahead of the ranks is ahead of the places
pub placed : (h : HierarchyValue) → IsHierarchy h → (q : Led) (to by : ℕ) (up down : List ℕ) → length up ≡ h.network.nodes → q.path ≡ ancestors_in (graph_of h) to
    → ((x : ℕ) → Contains q.path x → x < h.network.nodes) → q.allows ≡ is_in_time up down by → IsAhead h q.from to up down → IsPlaced h q to by (ahead_of up down)
placed h f q to by up down long on above al ahead =
    let n = h.network.nodes in
    let there : (x : ℕ) → Contains q.path x → Contains (ancestors_in (graph_of h) to) x = λ x c. subst (λ (xs : List ℕ). Contains xs x) on c in
    record {
      allows = al;
      climb = λ x y edge c e.
          let range = ends_range h f edge (record { low = x; high = y }) (edge_numbered h x y edge e) in
          let lt = range.0 in
          let high = range.1 in
          let ix : x < length up = omega (arith, lt, high, long) in
          let iy : y < length up = omega (arith, high, long) in
          let a = ahead_up up down x ix in
          let b = ahead_up up down y iy in
          let le = ahead.climb x y edge c e in
          omega (arith, a, b, le);
      turn = λ x c.
          let lt = above x c in
          let a = ahead_up up down x (omega (arith, lt, long)) in
          let b = ahead_down up down n x (sym long) in
          let le = ahead.turn x (there x c) in
          omega (arith, a, b, le);
      fall = λ x y edge c e.
          let a = ahead_down up down n x (sym long) in
          let b = ahead_down up down n y (sym long) in
          let le = ahead.fall x y edge (there x c) e in
          omega (arith, a, b, le);
      end = ahead_down up down n to (sym long) ∙ ahead.end;
    }

-- what follows of an item holds of it
pub if_some_then : (o : Option ℕ) (P Q : ℕ → Type 0) → ((x : ℕ) → P x → Q x) → IfSome o P → IfSome o Q
if_some_then None P Q f is = is
if_some_then (Some x) P Q f is = f x is

some_at : (o : Option Label) (arrival : ℕ) → second_of o ≡ Some arrival → (l : Label) × (o ≡ Some l) × (l.second ≡ arrival)
some_at None arrival e = absurd (none-some arrival e)
some_at (Some label) arrival e = (label, refl, same_Some label.second arrival e)

module _ (h : HierarchyValue) (f : IsHierarchy h) (short : NeverLong h) (q : Led) (closed : IsClosed h q.path) (to by : ℕ) (ahead : ℕ → ℕ) (at : IsPlaced h q to by ahead)
    (member : Contains q.path to) (labels : LabelsValue) (reached : IsReachedAs h labels (labels.nodes + to) (down_made h q to)) (arrival : ℕ)
    (is : second_at labels.seconds (labels.nodes + to) ≡ Some arrival) (soon : arrival ≤ by) where
  in_time : (l : Label) × (down_label h q.from q.second to ≡ Some l) × (down_made h q to ≡ Some l) × (l.second ≡ arrival)
  in_time =
      let (l, made, same) = some_at (down_made h q to) arrival (sym reached.second ∙ is) in
      (l, goal_reached h f q closed to by ahead at member l made (omega (arith, same, soon)), made, same)

  -- what is found in time is found by all calls
  pub found_in_time : Arrive arrival ≡ found h q.from to q.second
  found_in_time =
      let (l, whole, made, same) = in_time in
      ap Arrive (sym same)
      ∙ sym (ap (λ (long : Option Call). found_by long (down_label h q.from q.second to)) (none_long h short (sweep_calls h q.from to q.second)) ∙ ap (found_by None) whole)

  -- and the places hold its calls
  pub holds_in_time : AreKept labels.links → labels.turned ≡ false → HoldsFound h q.from to q.second (Arrive arrival) (desk_of labels (labels.nodes + to))
  holds_in_time kept unturned =
      let (l, whole, made, same) = in_time in
      let (calls, arriving) = reached.calls kept l made in
      (l, whole, calls, arriving, unturned)

-- a call in time is in time where it is made sooner
pub in_time_falls : (up down : List ℕ) (by : ℕ) → FallsOff (is_in_time up down by)
in_time_falls up down by place s t less may =
    let le : t + ahead_of up down place ≤ by = leb-true (t + ahead_of up down place) by may in
    le-leb (s + ahead_of up down place) by (omega (arith, less, le))

-- a rank that a call in time leads up from is reached in time
pub in_time_leads : (h : HierarchyValue) → IsHierarchy h → (from to by : ℕ) (up down : List ℕ) → length up ≡ h.network.nodes → IsAhead h from to up down
    → All (LeadsUp h (is_in_time up down by)) (ancestors_in (graph_of h) from)
in_time_leads h f from to by up down long ahead =
    all_from_members (LeadsUp h (is_in_time up down by)) (ancestors_in (graph_of h) from)
    (λ x c y edge s e may.
    let range = ends_range h f edge (record { low = x; high = y }) (edge_numbered h x y edge e) in
    let lt = range.0 in
    let high = range.1 in
    let a = ahead_up up down x (omega (arith, lt, high, long)) in
    let b = ahead_up up down y (omega (arith, high, long)) in
    let le = ahead.climb x y edge c e in
    let soon : (s + least_bound h edge Up) + ahead_of up down y ≤ by = leb-true ((s + least_bound h edge Up) + ahead_of up down y) by may in
    le-leb (s + ahead_of up down x) by (omega (arith, a, b, le, soon)))
