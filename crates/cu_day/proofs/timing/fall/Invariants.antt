-- The arcs down to the ranks behind this place were taken, the last first, as far as they are in time.
use Rattle.std.proofs.Common.{◌≡◌, ◌≤◌, length, drop, reverse}
use Rattle.cu_day.specs.Steps.InTime.{AreSlacks, InTime}
use Rattle.cu_day.specs.Steps.Ranks.{DownSweptBy}
use Rattle.cu_interval.specs.declared.ways.Dir.TheVariants.{Down}
use Rattle.cu_sweep.specs.LedCalls.{arcs_of_ranks}
use Rattle.cu_day.specs.Steps.LedSteps.{AddsSomeOf}
use Rattle.cu_day.proofs.timing.fall.Given as goal

abbrev pub invariant-ranks : goal.invariant-ranks
invariant-ranks g l = record {
  stays : g.F.DayFunctions.hierarchy l.functions ≡ g.F.DayFunctions.hierarchy l.fn.functions;
  within : l.left ≤ length l.path;
  swept : DownSweptBy (InTime l.limits.by.now l.limits.outlook.now.down) (g.F.DayFunctions.hierarchy l.fn.functions) (reverse (drop l.left l.path))
      l.fn.reached.labels.items l.reached.labels.items;
  places : length l.reached.slacks.items ≡ l.graph.ranks;
  slacks : AreSlacks l.limits.by.now l.reached.labels.items l.reached.slacks.items;
  told : AddsSomeOf (arcs_of_ranks (g.F.DayFunctions.hierarchy l.fn.functions) Down (reverse (drop l.left l.path))) (g.F.DayFunctions.calls l.fn.functions) (g.F.DayFunctions.calls l.functions);
}

abbrev pub decreases-ranks : goal.decreases-ranks
decreases-ranks g l = l.left
