-- In a built hierarchy the labels of the sweeps are no later than any low walk on from an earlier one.
use Rattle.std.proofs.Common.{◌≡◌, ◌≤◌, ◌<◌, ◌+◌, ◌∙◌, refl, sym, ap, subst, arith, inl, inr}
use Rattle.std.proofs.Common.{ℕ, zero, suc, ltb, true, false, min, List, [], ◌∷◌, Option, Some, None, map}
use Rattle.std.specs.Prelude.{slice_get}
use Rattle.std.specs.List.{Contains}
use Rattle.std.proofs.Math.Nat.{min-eq_left, min-eq_right}
use Rattle.std.proofs.lemmas.Bool.{cases_lt}
use Rattle.std.proofs.lemmas.Option.{none-some, same_Some}
use Rattle.cu_model.specs.Roads.{drive}
use Rattle.cu_chordal.specs.declared.graph.Ends.{Ends}
use Rattle.cu_chordal.specs.Edges.{JoinedBelow}
use Rattle.cu_chordal.specs.Graphs.{HasEdge, up_of}
use Rattle.cu_chordal.proofs.Joined.{joined_back}
use Rattle.cu_chordal.proofs.Members.{member_cases, none_in_nil, place_of}
use Rattle.cu_chordal.proofs.Tables.{up_of_from_edge}
use Rattle.cu_elimtree.specs.SweepArcs.{ancestors_in}
use Rattle.cu_interval.specs.declared.ways.Dir.{Dir}
use Rattle.cu_interval.specs.declared.ways.Dir.TheVariants.{Up, Down}
use Rattle.cu_interval.specs.declared.relaxing.Call.{Call}
use Rattle.cu_interval.specs.declared.relaxing.Relaxed.{Relaxed}
use Rattle.cu_interval.specs.declared.relaxing.Relaxed.TheVariants.{At, NoWay, Long}
use Rattle.cu_interval.specs.Low.{IsLowWalk, WalkBelow}
use Rattle.cu_interval.specs.Hierarchies.{HierarchyValue, IsBuilt, IsHierarchy, start_of, end_of, graph_of, number_from}
use Rattle.cu_interval.specs.Unpacking.{relaxed}
use Rattle.cu_interval.proofs.BuiltWalks.{walk_path}
use Rattle.cu_interval.proofs.Lookups.{number_at}
use Rattle.cu_unpack.specs.Answers.{IsLowAnswer}
use Rattle.cu_unpack.proofs.Built.{relaxed_built}
use Rattle.cu_unpack.proofs.Edges.{edge_range}
use Rattle.cu_sweep.specs.Labels.{Label, down_label, down_label_by, earlier_of, earliest, label_by}
use Rattle.cu_sweep.specs.Labels.{label_over, start_label, up_label}
use Rattle.cu_sweep.specs.Sweeps.{second_of}
use Rattle.cu_sweep.specs.Swept.{Sweep}
use Rattle.cu_sweep.specs.Steps.Sweeping.{down_into, up_into}
use Rattle.cu_sweep.proofs.Ancestry.{ancestors_upwards}
use Rattle.cu_sweep.proofs.LabelLaws.{down_label-whole, up_label-whole}
use Rattle.cu_sweep.proofs.Reaching.{AreSwept, IsReachedBy}

-- the earlier of two labels is no later than the first
earlier_by_first : (a : Label) (b : Option Label) (t : ℕ) → a.second ≤ t → IsReachedBy (second_of (earlier_of (Some a) b)) t
earlier_by_first a None t le = (a.second, refl, le)
earlier_by_first a (Some b) t le =
    elim (cases_lt b.second a.second) [
      | inl lt ↦
          let soon : ltb b.second a.second ≡ true = grind (arith, lt) in
          (b.second, rw soon refl, omega (arith, lt, le))
      | inr ge ↦
          let late : ltb b.second a.second ≡ false = grind (arith, ge) in
          (a.second, rw late refl, le)
    ]

pub earlier_first : (a b : Option Label) (t : ℕ) → IsReachedBy (second_of a) t → IsReachedBy (second_of (earlier_of a b)) t
earlier_first None b t (s, is, le) = absurd (none-some s is)
earlier_first (Some a) b t (s, is, le) = let same = same_Some a.second s is in earlier_by_first a b t (omega (arith, same, le))

-- and than the second
earlier_second : (a b : Option Label) (t : ℕ) → IsReachedBy (second_of b) t → IsReachedBy (second_of (earlier_of a b)) t
earlier_second None b t r = r
earlier_second (Some a) None t (s, is, le) = absurd (none-some s is)
earlier_second (Some a) (Some b) t (s, is, le) =
    let same = same_Some b.second s is in
    elim (cases_lt b.second a.second) [
      | inl lt ↦
          let soon : ltb b.second a.second ≡ true = grind (arith, lt) in
          (b.second, rw soon refl, omega (arith, same, le))
      | inr ge ↦ earlier_by_first a (Some b) t (omega (arith, ge, same, le))
    ]

-- the earliest label is no later than each
earliest_of_member : (f : ℕ → Option Label) (xs : List ℕ) (x t : ℕ)
    → Contains xs x → IsReachedBy (second_of (f x)) t → IsReachedBy (second_of (earliest (map f xs))) t
earliest_of_member f [] x t c r = absurd (none_in_nil x c)
earliest_of_member f (y ∷ xs) x t c r =
    elim (member_cases y xs x c) [
      | inl same ↦ earlier_first (f y) (earliest (map f xs)) t (subst (λ (z : ℕ). IsReachedBy (second_of (f z)) t) (sym same) r)
      | inr rest ↦ earlier_second (f y) (earliest (map f xs)) t (earliest_of_member f xs x t rest r)
    ]

after_member : (first : Option Label) (f : ℕ → Option Label) (xs : List ℕ) (x t : ℕ)
    → Contains xs x → IsReachedBy (second_of (f x)) t → IsReachedBy (second_of (earliest (first ∷ map f xs))) t
after_member first f xs x t c r = earlier_second first (earliest (map f xs)) t (earliest_of_member f xs x t c r)

-- a walk below its lower end is a low walk, and joins the ends of an edge
record IsUnder (h : HierarchyValue) (x y u : ℕ) (walk : List ℕ) (v : ℕ) : Type 0 where
  low : IsLowWalk h.network h.order u walk v
  has : HasEdge h.edges x y

module _ (h : HierarchyValue) (f : IsHierarchy h) where
  under_by : (x y : ℕ) → x < y → JoinedBelow h.network h.order x x y → HasEdge h.edges x y
  under_by x y lt joined =
      let least : min x y ≡ x = min-eq_left (omega (arith, lt)) in
      let low = subst (λ (m : ℕ). JoinedBelow h.network h.order m x y) (sym least) joined in
      (f.edges.exact x y).1 (lt, ((λ same. absurd (omega (arith, lt, same))), low))

  up_under : (x y : ℕ) (walk : List ℕ)
      → x < y → WalkBelow h.network h.order x x walk y → IsUnder h x y x walk y
  up_under x y walk lt w =
      let least : min x y ≡ x = min-eq_left (omega (arith, lt)) in
      let low = subst (λ (m : ℕ). WalkBelow h.network h.order m x walk y) (sym least) w in
      record {
        low = ((λ same. absurd (omega (arith, lt, same))), low);
        has = under_by x y lt (walk_path h.network h.order x x walk y w);
      }

  down_under : (x y : ℕ) (walk : List ℕ)
      → x < y → WalkBelow h.network h.order x y walk x → IsUnder h x y y walk x
  down_under x y walk lt w =
      let least : min y x ≡ x = min-eq_right (omega (arith, lt)) in
      let low = subst (λ (m : ℕ). WalkBelow h.network h.order m y walk x) (sym least) w in
      let path = walk_path h.network h.order x y walk x w in
      record {
        low = ((λ same. absurd (omega (arith, lt, same))), low);
        has = under_by x y lt (joined_back h.network h.order x y path.0 x path.1);
      }

-- where a low walk leads, the answer is no later
answer_reaches : (h : HierarchyValue) (u v t : ℕ) (walk : List ℕ) (r : Relaxed) (calls : List Call)
    → IsLowWalk h.network h.order u walk v → IsLowAnswer h.network h.order u v t r
    → IsReachedBy (second_of (label_by r calls)) (drive h.network walk t)
answer_reaches h u v t walk (At s) calls low answer = (s, refl, answer.least walk low)
answer_reaches h u v t walk NoWay calls low answer = absurd (answer (walk, low))
answer_reaches h u v t walk Long calls low answer = absurd answer

-- and so is the label that the call gives
over_reaches : (h : HierarchyValue) → IsBuilt h → (edge : ℕ) (dir : Dir) (ends : Ends) (walk : List ℕ) (s : ℕ)
    → slice_get h.edges edge ≡ Some ends → IsLowWalk h.network h.order (start_of ends dir) walk (end_of ends dir)
    → (o : Option Label) → second_of o ≡ Some s → IsReachedBy (second_of (label_over h (Some edge) dir o)) (drive h.network walk s)
over_reaches h f edge dir ends walk s at low None e = absurd (none-some s e)
over_reaches h f edge dir ends walk s at low (Some label) e =
    let t = label.second in
    let answer = relaxed_built h edge dir t (relaxed h edge dir t) refl f ends at in
    let over = label_over h (Some edge) dir (Some label) in
    subst (λ (x : ℕ). IsReachedBy (second_of over) (drive h.network walk x)) (same_Some t s e)
    (answer_reaches h (start_of ends dir) (end_of ends dir) t walk (relaxed h edge dir t) _ low answer)

-- an edge is found by its ends
edge_at : (h : HierarchyValue) → IsHierarchy h → (x y : ℕ) → HasEdge h.edges x y
    → (edge : ℕ) × (slice_get h.edges edge ≡ Some (record { low = x; high = y })) × (number_from 0 h.edges x y ≡ Some edge)
edge_at h f x y has =
    let (edge, at) = place_of h.edges (record { low = x; high = y }) has in
    let sum : 0 + edge ≡ edge = omega arith in
    (edge, at, number_at 0 h.edges edge x y f.graph.rising at ∙ ap Some sum)

-- an upward label is no later than a low walk on from an ancestor's
up_reaches : (h : HierarchyValue) → IsBuilt h → (q : Sweep) (x y s : ℕ) (walk : List ℕ)
    → Contains (ancestors_in (graph_of h) q.from) x → IsUnder h x y x walk y → second_of (up_label h q.from q.second x) ≡ Some s
    → IsReachedBy (second_of (up_label h q.from q.second y)) (drive h.network walk s)
up_reaches h f q x y s walk c under e =
    let (edge, at, number) = edge_at h f.sound x y under.has in
    let from = up_label h q.from q.second x in
    let t = drive h.network walk s in
    let over = over_reaches h f edge Up (record { low = x; high = y }) walk s at under.low from e in
    let into = subst (λ (n : Option ℕ). IsReachedBy (second_of (label_over h n Up from)) t) (sym number) over in
    subst (λ (o : Option Label). IsReachedBy (second_of o) t) (sym (up_label-whole h f.sound q y))
    (after_member (start_label q.from q.second y) (up_into h q y) (ancestors_in (graph_of h) q.from) x t c into)

-- a downward label is no later than a low walk on from a higher rank's
down_reaches : (h : HierarchyValue) → IsBuilt h → (q : Sweep) (x y s : ℕ) (walk : List ℕ)
    → IsUnder h x y y walk x → second_of (down_label h q.from q.second y) ≡ Some s
    → IsReachedBy (second_of (down_label h q.from q.second x)) (drive h.network walk s)
down_reaches h f q x y s walk under e =
    let (edge, at, number) = edge_at h f.sound x y under.has in
    let range = edge_range h f.sound x y under.has in
    let from = down_label h q.from q.second y in
    let t = drive h.network walk s in
    let over = over_reaches h f edge Down (record { low = x; high = y }) walk s at under.low from e in
    let into = subst (λ (n : Option ℕ). IsReachedBy (second_of (label_over h n Down from)) t) (sym number) over in
    let within : x < h.network.nodes = let a = range.0 in let b = range.1 in omega (arith, a, b) in
    subst (λ (o : Option Label). IsReachedBy (second_of o) t) (sym (down_label-whole h f.sound q x within))
    (after_member (up_label h q.from q.second x) (down_into h q x) (up_of h.edges x) y t
    (up_of_from_edge h.edges x y under.has) into)

turn_by : (h : HierarchyValue) (from second fuel x s : ℕ) → 0 < fuel
    → second_of (up_label h from second x) ≡ Some s → IsReachedBy (second_of (down_label_by h from second fuel x)) s
turn_by h from second zero x s lt e = absurd (omega (arith, lt))
turn_by h from second (suc fuel) x s lt e = earlier_first (up_label h from second x) _ s (s, e, omega arith)

-- what the sweeps of a query leave in a built hierarchy
pub swept : (h : HierarchyValue) → IsBuilt h → (q : Sweep) (to : ℕ) → 0 < h.network.nodes
    → AreSwept h.network h.order
    (Contains (ancestors_in (graph_of h) q.from)) (Contains (ancestors_in (graph_of h) to))
    (λ x. second_of (up_label h q.from q.second x)) (λ x. second_of (down_label h q.from q.second x))
swept h f q to some = record {
  climb = λ x y s walk c lt w e.
      let under = up_under h f.sound x y walk lt w in
      (ancestors_upwards (graph_of h) f.sound.graph q.from x y c under.has, up_reaches h f q x y s walk c under e);
  fall = λ y z s walk c lt w e. down_reaches h f q y z s walk (down_under h f.sound y z walk lt w) e;
  goes_up = λ y z walk c lt w. ancestors_upwards (graph_of h) f.sound.graph to y z c (down_under h f.sound y z walk lt w).has;
  turn = λ x s e. turn_by h q.from q.second h.network.nodes x s some e;
}
