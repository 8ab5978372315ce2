-- The arcs down to the ranks behind this place were taken, the last first.
use Rattle.std.proofs.Common.{◌≡◌, ◌≤◌, ◌++◌, length, drop, reverse}
use Rattle.cu_day.specs.Steps.Ranks.{DownSweptBy}
use Rattle.cu_interval.specs.declared.ways.Dir.TheVariants.{Down}
use Rattle.cu_sweep.specs.LedCalls.{arcs_of_ranks}
use Rattle.cu_day.specs.Steps.Sweeping.{Always}
use Rattle.cu_day.proofs.days.sweep_down.Given as goal

abbrev pub invariant-ranks : goal.invariant-ranks
invariant-ranks g l =
    let h = g.F.DayFunctions.hierarchy l.fn.functions in
    (g.F.DayFunctions.hierarchy l.functions ≡ h) × (l.left ≤ length l.path)
    × DownSweptBy Always h (reverse (drop l.left l.path)) l.fn.labels.items l.labels.items
    × (g.F.DayFunctions.calls l.functions ≡ g.F.DayFunctions.calls l.fn.functions ++ arcs_of_ranks h Down (reverse (drop l.left l.path)))

abbrev pub decreases-ranks : goal.decreases-ranks
decreases-ranks g l = l.left
