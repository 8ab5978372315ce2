-- The arcs up from so many ranks were taken.
use Rattle.std.proofs.Common.{◌≡◌, ◌≤◌, ◌-◌, ◌++◌, length, take}
use Rattle.cu_day.specs.Steps.Ranks.{HasSweptUp}
use Rattle.cu_interval.specs.declared.ways.Dir.TheVariants.{Up}
use Rattle.cu_sweep.specs.LedCalls.{arcs_of_ranks}
use Rattle.cu_day.specs.Steps.Sweeping.{Always}
use Rattle.cu_day.proofs.days.sweep_up.Given as goal

abbrev pub invariant-ranks : goal.invariant-ranks
invariant-ranks g l =
    let h = g.F.DayFunctions.hierarchy l.fn.functions in
    (g.F.DayFunctions.hierarchy l.functions ≡ h) × (l.done ≤ length l.path) × HasSweptUp Always h (take l.done l.path) l.fn.labels.items l.labels.items
    × (g.F.DayFunctions.calls l.functions ≡ g.F.DayFunctions.calls l.fn.functions ++ arcs_of_ranks h Up (take l.done l.path))

abbrev pub decreases-ranks : goal.decreases-ranks
decreases-ranks g l = length l.path - l.done
