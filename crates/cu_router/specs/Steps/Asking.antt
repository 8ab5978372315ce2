-- The calls of one query.
use Rattle.std.specs.Prelude.{ℕ, List, Option, ◌⊎◌}
use Rattle.cu_interval.specs.declared.relaxing.Call.{Call}
use Rattle.cu_interval.specs.Hierarchies.{HierarchyValue}
use Rattle.cu_sweep.specs.LedCalls.{AddsLed}
use Rattle.cu_sweep.specs.Sweeps.{AddsAll, sweep_calls, until_long}

-- the calls of one query between two ranks were added, and no others: those of one that is led to its end, or all sweep calls up to the
-- first whose walk is too long
abbrev pub AddsQuery : HierarchyValue → (from to second : ℕ) → Option (List Call) → Option (List Call) → Type 0
AddsQuery h from to second before now =
    AddsLed h from to second before now ⊎ AddsAll before now (until_long h (sweep_calls h from to second))
