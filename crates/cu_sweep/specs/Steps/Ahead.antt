-- Which calls may still be in time for a query's end.
use Rattle.std.specs.Prelude.{ℕ, Bool, List, Option, Some, None, ◌≡◌, ◌≤◌, ◌+◌, ◌-◌, nat_le, nat_lt, length, true, if◌then◌else◌}
use Rattle.cu_interval.specs.declared.ways.Dir.{Dir}
use Rattle.cu_interval.specs.declared.ways.Dir.TheVariants.{Up}
use Rattle.cu_interval.specs.Hierarchies.{HierarchyValue, number_from}
use Rattle.cu_interval.specs.LeastBounds.{least_bound}
use Rattle.cu_sweep.specs.Labels.{Label, label_over}
use Rattle.cu_sweep.specs.Outlooks.{ahead_at}

-- the label that a call over an edge gives, where it may be in time with this still to go behind it
abbrev pub label_in_time : HierarchyValue → ℕ → Option ℕ → Dir → ℕ → Option Label → Option Label
label_in_time h by None dir ahead label = None
label_in_time h by (Some edge) dir ahead None = None
label_in_time h by (Some edge) dir ahead (Some label) =
    if nat_le ((label.second + least_bound h edge dir) + ahead) by then label_over h (Some edge) dir (Some label) else None

-- what is at least still to go from a place: from a rank upwards, or downwards behind them
abbrev pub ahead_of : List ℕ → List ℕ → ℕ → ℕ
ahead_of up down place = if nat_lt place (length up) then ahead_at up place else ahead_at down (place - length up)

-- a call into a place that arrives no sooner than this may still be in time
abbrev pub is_in_time : List ℕ → List ℕ → ℕ → ℕ → ℕ → Bool
is_in_time up down by place soonest = nat_le (soonest + ahead_of up down place) by

-- a call that may be made may be made sooner too
abbrev pub FallsOff : (ℕ → ℕ → Bool) → Type 0
FallsOff allows = (place s t : ℕ) → s ≤ t → allows place t ≡ true → allows place s ≡ true

-- where a call up from a rank may be made, the rank is reached soon enough
abbrev pub LeadsUp : HierarchyValue → (ℕ → ℕ → Bool) → ℕ → Type 0
LeadsUp h allows x = (y edge s : ℕ) → number_from 0 h.edges x y ≡ Some edge → allows y (s + least_bound h edge Up) ≡ true → allows x s ≡ true
