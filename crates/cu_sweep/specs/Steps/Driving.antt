-- What driving a way, and sweeping to a limit, tell of their calls.
use Rattle.std.specs.Prelude.{ℕ, List, [], ◌∷◌, ◌++◌, Option, ◌≡◌, ◌⊎◌, map}
use Rattle.cu_interval.specs.declared.ways.Dir.{Dir}
use Rattle.cu_interval.specs.declared.relaxing.Call.{Call}
use Rattle.cu_interval.specs.Hierarchies.{HierarchyValue}
use Rattle.cu_sweep.specs.LedCalls.{AreInSweeps, LeadOn, arc_of}
use Rattle.cu_sweep.specs.Sweeps.{AddsAll, sweep_calls, until_long}

-- calls along arcs from one rank to another were added
pub record AddsLegs (h : HierarchyValue) (rank : ℕ) (dir : Dir) (from to : ℕ) (before now : Option (List Call)) : Type 0 where
  pub calls : List Call
  pub leads : LeadOn h rank dir from (map arc_of calls) to
  pub added : AddsAll before now calls

-- such calls from one rank to some
abbrev pub AddsLegsOn : HierarchyValue → ℕ → Dir → ℕ → Option (List Call) → Option (List Call) → Type 0
AddsLegsOn h rank dir from before now = (to : ℕ) × AddsLegs h rank dir from to before now

-- a call was added, or none
abbrev pub Tries : Option (List Call) → Option (List Call) → Call → Type 0
Tries before now call = AddsAll before now [] ⊎ AddsAll before now (call ∷ [])

-- some calls of two sweeps were added, and then nothing, or the calls of the query that isn't led
pub record AddsLimited (h : HierarchyValue) (from to second : ℕ) (before now : Option (List Call)) : Type 0 where
  pub led : List Call
  pub rest : List Call
  pub some : AreInSweeps h from to (map arc_of led)
  pub over : (rest ≡ []) ⊎ (rest ≡ until_long h (sweep_calls h from to second))
  pub added : AddsAll before now (led ++ rest)
