-- The arcs up from so many ranks were taken, as far as they are in time.
use Rattle.std.proofs.Common.{◌≡◌, ◌≤◌, ◌-◌, length, take}
use Rattle.cu_day.specs.Steps.InTime.{AreSlacks, InTime}
use Rattle.cu_day.specs.Steps.Ranks.{HasSweptUp}
use Rattle.cu_interval.specs.declared.ways.Dir.TheVariants.{Up}
use Rattle.cu_sweep.specs.LedCalls.{arcs_of_ranks}
use Rattle.cu_day.specs.Steps.LedSteps.{AddsSomeOf}
use Rattle.cu_day.proofs.timing.rise.Given as goal

abbrev pub invariant-ranks : goal.invariant-ranks
invariant-ranks g l = record {
  stays : g.F.DayFunctions.hierarchy l.functions ≡ g.F.DayFunctions.hierarchy l.fn.functions;
  within : l.done ≤ length l.path;
  swept : HasSweptUp (InTime l.limits.by.now l.limits.outlook.now.up) (g.F.DayFunctions.hierarchy l.fn.functions) (take l.done l.path) l.fn.reached.labels.items
      l.reached.labels.items;
  places : length l.reached.slacks.items ≡ l.graph.ranks;
  slacks : AreSlacks l.limits.by.now l.reached.labels.items l.reached.slacks.items;
  told : AddsSomeOf (arcs_of_ranks (g.F.DayFunctions.hierarchy l.fn.functions) Up (take l.done l.path)) (g.F.DayFunctions.calls l.fn.functions) (g.F.DayFunctions.calls l.functions);
}

abbrev pub decreases-ranks : goal.decreases-ranks
decreases-ranks g l = length l.path - l.done
