-- The value of a settled list is the least arrival over the low walks.
use Rattle.std.proofs.Common.{◌≡◌, ◌≢◌, ◌<◌, ◌+◌, ◌*◌, ℕ, List, [], Option, Some, None, sym, subst, arith, min}
use Rattle.std.specs.Option.{option_map}
use Rattle.cu_model.specs.Networks.{NetworkValue}
use Rattle.cu_model.specs.Orders.{OrderValue}
use Rattle.cu_model.specs.Days.{day, RepeatsDaily}
use Rattle.cu_model.proofs.DayLaws.{day_parts}
use Rattle.cu_arrival.specs.declared.runs.Run.{Run}
use Rattle.cu_arrival.specs.Runs.{arrival_value}
use Rattle.cu_chordal.specs.declared.graph.Ends.{Ends}
use Rattle.cu_interval.specs.declared.ways.Entry.{Entry}
use Rattle.cu_interval.specs.declared.ways.Way.{Way}
use Rattle.cu_interval.specs.FirstWays.{IsFirstWay}
use Rattle.cu_interval.specs.Low.{IsLeastLowDrive}
use Rattle.cu_interval.specs.WayLists.{way_in}
use Rattle.cu_interval.proofs.BuiltWalks.{arrives_once}
use Rattle.cu_interval.proofs.Days.{least-days}
use Rattle.cu_interval.proofs.Middles.{first_least}
use Rattle.cu_interval.proofs.Unpacked.{way_there}
use Rattle.cu_interval.proofs.LowLists.{HasLeastBelow, built_some, candidate_walk}
use Rattle.cu_customize.specs.Functions.{FunctionsState, IsLowFunction}
use Rattle.cu_customize.specs.Settling.{ArrivesBy, IsSettledList}
use Rattle.cu_customize.proofs.LowFunctions.{IsSetting, settled_built, value_there}

-- the value of the ways of a list at each second of the day, of a function that repeats by whole days; none where the list is empty
abbrev pub IsDailyValueOf : List Ends → FunctionsState → ℕ → ℕ → List Entry → Option (List Run) → Type 0
IsDailyValueOf edges f u v entries None = entries ≡ []
IsDailyValueOf edges f u v entries (Some runs) = (entries ≢ []) × RepeatsDaily (arrival_value runs)
    × ((t : ℕ) (way : Way) → t < day → way_in entries t ≡ Some way → ArrivesBy edges f u v t way (arrival_value runs t))

module _ (g : NetworkValue) (o : OrderValue) (edges : List Ends) (arcs : List ℕ) (f : FunctionsState) (u v : ℕ) (s : IsSetting g o edges arcs f u v) where
  -- over the day
  settled_in_day : u ≢ v → HasLeastBelow g o (min u v) → (entries : List Entry) (runs : List Run) → IsSettledList edges arcs f u v entries → entries ≢ []
      → ((t : ℕ) (way : Way) → t < day → way_in entries t ≡ Some way → ArrivesBy edges f u v t way (arrival_value runs t))
      → (t : ℕ) → t < day → IsLeastLowDrive g o u v t (arrival_value runs t)
  settled_in_day apart has entries runs settled some value t lt =
      let (way, e) = way_there entries settled.spelled some t in
      let built = settled_built g o edges arcs f u v s entries settled in
      let first : IsFirstWay g o u v t way = built.first t way lt e in
      let arrives = value_there g o edges arcs f u v s t (arrival_value runs t) way lt first.candidate (value t way lt e) in
      let same : first.arrival ≡ arrival_value runs t = arrives_once g o u v t way first.arrival (arrival_value runs t) first.arrives arrives in
      record {
        reached = candidate_walk g o u v t way (arrival_value runs t) apart first.candidate arrives;
        least = λ w l. let p = first_least g o s.network u v t way has first w l in omega (arith, p, same);
      }

  -- at every second
  pub settled_low : u ≢ v → HasLeastBelow g o (min u v) → (entries : List Entry) (function : Option (List Run)) → IsSettledList edges arcs f u v entries → IsDailyValueOf edges f u v entries function
      → IsLowFunction g o u v (option_map arrival_value function)
  settled_low apart has entries None settled value =
      λ walk. built_some g o s.network u v has entries (settled_built g o edges arcs f u v s entries settled) walk value
  settled_low apart has entries (Some runs) settled value =
      λ t.
      let (k, r, lt, e) = day_parts t in
      let here = settled_in_day apart has entries runs settled value.0 value.2 r lt in
      let later = least-days g o s.network u v k r (arrival_value runs r) here in
      let same = value.1 k r lt in
      subst (λ (x : ℕ). IsLeastLowDrive g o u v x (arrival_value runs x)) (sym e) (subst (λ (a : ℕ). IsLeastLowDrive g o u v (k * day + r) a) (sym same) later)
