-- Rebuilt values read no more than the lists from which they come: two hierarchies that agree on these have the same.
use Rattle.std.proofs.Common.{◌≡◌, ◌<◌, ◌+◌, ◌*◌, ◌/◌, ◌%◌, ◌∙◌, ℕ, zero, suc, List, Option, Some, ap, sym, subst, arith, inl, inr, min, get_or}
use Rattle.std.specs.Prelude.{All, option_map, slice_get}
use Rattle.std.proofs.lemmas.Bool.{cases_eq}
use Rattle.std.proofs.lemmas.Option.{get_or_from_slice_get, slice_get-get_or, slice_get_within}
use Rattle.cu_model.proofs.Begun.{gt_test, last_begun-at, le_test, rises_between}
use Rattle.cu_model.specs.Days.{day}
use Rattle.cu_chordal.specs.declared.graph.Ends.{Ends}
use Rattle.cu_interval.specs.declared.ways.Dir.{Dir}
use Rattle.cu_interval.specs.declared.ways.Way.{Way}
use Rattle.cu_interval.specs.declared.ways.Way.TheVariants.{Road, Via}
use Rattle.cu_interval.specs.declared.ways.Entry.{Entry}
use Rattle.cu_interval.specs.Hierarchies.{HierarchyValue, end_of, list_from, start_of}
use Rattle.cu_interval.specs.Resettling.{least_in, rebuilt, rebuilt_by, value_by}
use Rattle.cu_interval.specs.WayLists.{IsRunsOf, IsWayList, entry_in, way_in}
use Rattle.cu_interval.proofs.Spelled.{entries_rise}
use Rattle.cu_interval.proofs.Rebuilding.{least_in-same, then_at-same}
use Rattle.cu_edits.specs.Steps.Frames.{IsFrame, IsFramed}

value_by-same : (a b : HierarchyValue) (Pair : ℕ → ℕ → Type 0) (half more : ℕ → ℕ → ℕ → Option ℕ) (u v t : ℕ) (way : Way) → IsFramed a b Pair u v way
    → ((x y s : ℕ) → Pair x y → min x y < min u v → half x y s ≡ more x y s) → value_by a.network half u v t way ≡ value_by b.network more u v t way
value_by-same a b Pair half more u v t (Road road) framed same = ap Some (framed t)
value_by-same a b Pair half more u v t (Via m) framed same =
    let (to, on, first, second) = framed in
    then_at-same (half u m t) (more u m t) (half m v) (more m v) (same u m t first (omega (arith, to, on))) (λ x. same m v x second (omega (arith, to, on)))

-- the rebuilt values between these pairs are the same, by any fuel that reaches the lower end
pub rebuilt_same : (a b : HierarchyValue) (Pair : ℕ → ℕ → Type 0) → IsFrame a b Pair → (fuel more u v t : ℕ) → Pair u v → min u v < fuel → min u v < more
    → rebuilt_by a fuel u v t ≡ rebuilt_by b more u v t
rebuilt_same a b Pair frame zero more u v t pair x y = absurd (omega (arith, x))
rebuilt_same a b Pair frame (suc fuel) zero u v t pair x y = absurd (omega (arith, y))
rebuilt_same a b Pair frame (suc fuel) (suc more) u v t pair x y =
    let first = value_by a.network (rebuilt_by a fuel) u v (t % day) in
    let second = value_by b.network (rebuilt_by b more) u v (t % day) in
    let halves : (p q s : ℕ) → Pair p q → min p q < min u v → rebuilt_by a fuel p q s ≡ rebuilt_by b more p q s =
    λ p q s half low. rebuilt_same a b Pair frame fuel more p q s half (omega (arith, x, low)) (omega (arith, y, low)) in
    ap (option_map (λ (value : ℕ). day * (t / day) + value))
    (least_in-same first second (list_from a u v) (λ k d lt. value_by-same a b Pair (rebuilt_by a fuel) (rebuilt_by b more) u v (t % day) _ (frame.ways u v pair k d lt) halves)
    ∙ ap (least_in second) (frame.lists u v pair))

-- so are those between the ends of an edge over such a pair, whatever they are
pub rebuilt_stays : (a b : HierarchyValue) (Pair : ℕ → ℕ → Type 0) → IsFrame a b Pair → (edges : List Ends) → a.edges ≡ edges → b.edges ≡ edges → (e : ℕ) (dir : Dir) (values : ℕ → ℕ)
    → ((ends : Ends) → slice_get edges e ≡ Some ends → Pair (start_of ends dir) (end_of ends dir))
    → ((ends : Ends) → slice_get a.edges e ≡ Some ends → (t : ℕ) → rebuilt a (start_of ends dir) (end_of ends dir) t ≡ Some (values t))
    → (ends : Ends) → slice_get b.edges e ≡ Some ends → (t : ℕ) → rebuilt b (start_of ends dir) (end_of ends dir) t ≡ Some (values t)
rebuilt_stays a b Pair frame edges of_a of_b e dir values pair before ends at t =
    let in_edges : slice_get edges e ≡ Some ends = subst (λ (es : List Ends). slice_get es e ≡ Some ends) of_b at in
    let u = start_of ends dir in
    let v = end_of ends dir in
    sym (rebuilt_same a b Pair frame (suc (min u v)) (suc (min u v)) u v t (pair ends in_edges) (omega arith) (omega arith))
    ∙ before ends (subst (λ (es : List Ends). slice_get es e ≡ Some ends) (sym of_a) in_edges) t

-- the same for a way whose halves are such pairs
pub via_same : (a b : HierarchyValue) (Pair : ℕ → ℕ → Type 0) → IsFrame a b Pair → (u v m t : ℕ) → Pair u m → Pair m v
    → value_by a.network (rebuilt a) u v t (Via m) ≡ value_by b.network (rebuilt b) u v t (Via m)
via_same a b Pair frame u v m t first second =
    then_at-same (rebuilt a u m t) (rebuilt b u m t) (rebuilt a m v) (rebuilt b m v) (rebuilt_same a b Pair frame (suc (min u m)) (suc (min u m)) u m t first (omega arith) (omega arith))
    (λ x. rebuilt_same a b Pair frame (suc (min m v)) (suc (min m v)) m v x second (omega arith) (omega arith))

-- the same candidates, which arrive alike
pub record ChoosesAlike (C D : Way → Type 0) (A B : ℕ → Way → ℕ → Type 0) : Type 0 where
  pub there : (way : Way) → C way → D way
  pub back : (way : Way) → D way → C way
  pub arrives : (s : ℕ) (way : Way) (x : ℕ) → C way → A s way x → B s way x
  pub arrived : (s : ℕ) (way : Way) (x : ℕ) → C way → B s way x → A s way x

pub runs_alike : (C D : Way → Type 0) (A B : ℕ → Way → ℕ → Type 0) (es : List Entry) → ChoosesAlike C D A B → IsRunsOf C A es → IsRunsOf D B es
runs_alike C D A B es alike runs = record {
  spelled = runs.spelled;
  first = λ s way lt e.
      let f = runs.first s way lt e in record {
        candidate = alike.there way f.candidate;
        arrival = f.arrival;
        arrives = alike.arrives s way f.arrival f.candidate f.arrives;
        first = λ other later d arrives. f.first other later (alike.back other d) (alike.arrived s other later (alike.back other d) arrives);
      };
  none = λ e way d. runs.none e way (alike.back way d);
}

-- at the second from which an entry is taken it is the one in force
in_force : (es : List Entry) → IsWayList es → (j : ℕ) (entry : Entry) → slice_get es j ≡ Some entry → way_in es entry.from ≡ Some entry.way
in_force es spelled j entry at =
    let from : Entry → ℕ = λ (e : Entry). e.from in
    let rises = entries_rise es spelled in
    let here : get_or es j entry ≡ entry = get_or_from_slice_get es j entry entry at in
    let inside = slice_get_within es j entry at in
    let last : entry_in es entry.from ≡ Some entry =
    last_begun-at from es j entry.from entry at
    (λ k y e low. le_test y.from entry.from (elim (cases_eq k j) [
      | inl same ↦ let is : y ≡ entry = cc (subst (λ (i : ℕ). slice_get es i ≡ Some y) same e, at) in let f = ap from is in omega (arith, f)
      | inr other ↦
          let lt = rises_between from es rises entry k j (omega (arith, low, other)) inside in
          let first = get_or_from_slice_get es k y entry e in
          let f = ap from first in let g = ap from here in omega (arith, lt, f, g)
    ]))
    (λ k y e high. gt_test y.from entry.from (
    let past = slice_get_within es k y e in
    let lt = rises_between from es rises entry j k (omega (arith, high)) past in
    let first = get_or_from_slice_get es k y entry e in
    let f = ap from first in let g = ap from here in omega (arith, lt, f, g))) in
    ap (option_map (λ (e : Entry). e.way)) last

-- each way of such runs is a candidate
pub candidates_alone : (C : Way → Type 0) (A : ℕ → Way → ℕ → Type 0) (es : List Entry) → IsRunsOf C A es → All (λ (entry : Entry). C entry.way) es
candidates_alone C A es runs = λ k d lt.
    let entry = get_or es k d in
    let at : slice_get es k ≡ Some entry = slice_get-get_or es k d lt in
    (runs.first entry.from entry.way (runs.spelled.within k d lt) (in_force es runs.spelled k entry at)).candidate
