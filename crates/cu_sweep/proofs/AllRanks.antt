-- All ranks, rising; and what a reach makes and finds.
use Rattle.std.proofs.Common.{◌≡◌, ◌<◌, ◌∙◌, ℕ, List, Option, None, arith, refl, subst, sym}
use Rattle.std.specs.Prelude.{All}
use Rattle.std.specs.List.{AllPairs, Contains, range_with_len}
use Rattle.std.proofs.lemmas.List.FromFn.{get_or-range_with_len, length-range_with_len}
use Rattle.std.proofs.lemmas.Option.{slice_get_within}
use Rattle.cu_model.specs.Days.{day}
use Rattle.cu_interval.specs.declared.relaxing.Call.{Call}
use Rattle.cu_interval.specs.Hierarchies.{HierarchyValue, IsBuilt}
use Rattle.cu_sweep.specs.Sweeps.{up_calls}
use Rattle.cu_sweep.specs.Swept.{IsSweptDown, IsSweptUp, LabelsValue, Makes, Sweep, path_calls}
use Rattle.cu_sweep.specs.ToAll.{AreReached, AreTimes, AreTimesWhereBuilt, IsTime, down_calls_to_all, reach_calls}
use Rattle.cu_sweep.proofs.Answering.{label_time, reach_short}
use Rattle.cu_sweep.proofs.Telling.{makes_then}

pub all_below : (n : ℕ) → All (λ rank. rank < n) (range_with_len 0 n)
all_below n k d lt =
    let within : k < n = let long = length-range_with_len 0 n in omega (arith, lt, long) in
    let is = get_or-range_with_len 0 n k d within in omega (arith, is, within)

pub all_rise : (n : ℕ) → AllPairs (λ a b. a < b) (range_with_len 0 n)
all_rise n i j d less lt =
    let within : j < n = let long = length-range_with_len 0 n in omega (arith, lt, long) in
    let a = get_or-range_with_len 0 n i d (omega (arith, less, within)) in
    let b = get_or-range_with_len 0 n j d within in
    omega (arith, a, b, less)

pub all_there : (n rank : ℕ) → rank < n → Contains (range_with_len 0 n) rank
all_there n rank lt = (rank, (let long = length-range_with_len 0 n in omega (arith, lt, long)), (let is = get_or-range_with_len 0 n rank rank lt in omega (arith, is)))

-- in a built hierarchy ranks that are reached as they can be are reached at the least arrivals
pub times_reached : (h : HierarchyValue) → IsBuilt h → (from second : ℕ) → from < h.network.nodes → second < day → (labels : LabelsValue)
    → AreReached h from second labels → AreTimes h from second labels
times_reached h built from second a c labels reached rank u v start stop =
    let lt = slice_get_within h.order.node_at rank v stop in
    let long = built.sound.same in
    let b : rank < h.network.nodes = omega (arith, lt, long) in
    subst (IsTime h.network u v second) (sym (reached rank b).second) (label_time h built from rank second a b c u v start stop)

module _ (h : HierarchyValue) (from second : ℕ) (ranks : List ℕ) (same : ranks ≡ range_with_len 0 h.network.nodes) (before now : LabelsValue) where
  abbrev swept_all : Sweep
  swept_all = record { from = from; second = second; path = ranks }

  -- both passes are done, or the second one ended with a call whose walk is too long
  pub reach_makes : (a b c : Option (List Call)) (long : Option Call) → Makes h (up_calls h from second) a b None → IsSweptUp h swept_all before
      → ((q : Sweep) → q.path ≡ ranks → IsSweptUp h q before → Makes h (path_calls h q) b c long) → Makes h (reach_calls h from second) a c long
  reach_makes a b c long up swept down =
      let made = subst (λ (xs : List ℕ). Makes h (path_calls h (record { from = from; second = second; path = xs })) b c long) same (down swept_all refl swept) in
      makes_then h a b (up_calls h from second) (down_calls_to_all h from second) c long up made

  -- after which each rank is reached
  pub reach_reaches : (long : Option Call) → IsSweptUp h swept_all before
      → ((q : Sweep) → q.path ≡ ranks → IsSweptUp h q before → long ≡ None → IsSweptDown h q now) → long ≡ None → AreReached h from second now
  reach_reaches long swept down none rank lt =
      down swept_all refl swept none rank (subst (λ (xs : List ℕ). Contains xs rank) (sym same) (all_there h.network.nodes rank lt))

-- and in a built hierarchy no walk was too long
pub times_least : (h : HierarchyValue) (from second : ℕ) → from < h.network.nodes → second < day → (a b : Option (List Call)) (long : Option Call) (labels : LabelsValue)
    → Makes h (reach_calls h from second) a b long → (long ≡ None → AreReached h from second labels) → AreTimesWhereBuilt h from second long labels
times_least h from second lt c a b long labels made reached built =
    let none : long ≡ None = made.ended ∙ reach_short h built from second in
    (none, times_reached h built from second lt c labels (reached none))
