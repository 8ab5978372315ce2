-- The arcs to so many higher neighbours were taken, as far as they are in time.
use Rattle.std.proofs.Common.{◌≡◌, ◌+◌, length, map, take}
use Rattle.std.specs.List.{range_with_len}
use Rattle.cu_chordal.specs.Graphs.{first_edge_of, up_of}
use Rattle.cu_day.specs.Steps.InTime.{AreSlacks, InTime}
use Rattle.cu_day.specs.Steps.Ranks.{SpreadsTo}
use Rattle.cu_interval.specs.declared.ways.Dir.TheVariants.{Up}
use Rattle.cu_sweep.specs.LedCalls.{arc_by}
use Rattle.cu_day.specs.Steps.LedSteps.{AddsSomeOf}
use Rattle.cu_day.proofs.timing.spread_in_time.Given as goal

abbrev pub invariant-edges : goal.invariant-edges
invariant-edges g l = record {
  stays : g.F.DayFunctions.hierarchy l.functions ≡ g.F.DayFunctions.hierarchy l.fn.functions;
  highers : l.highers ≡ up_of (g.F.DayFunctions.hierarchy l.fn.functions).edges l.rank;
  edge : l.edge ≡ first_edge_of (g.F.DayFunctions.hierarchy l.fn.functions).edges l.rank + l.higher-index;
  spreads : SpreadsTo (InTime l.limits.by.now l.limits.outlook.now.up) (g.F.DayFunctions.hierarchy l.fn.functions) l.rank (take l.higher-index l.highers)
      l.fn.reached.labels.items l.reached.labels.items;
  places : length l.reached.slacks.items ≡ l.graph.ranks;
  slacks : AreSlacks l.limits.by.now l.reached.labels.items l.reached.slacks.items;
  told : AddsSomeOf (map (arc_by Up) (range_with_len (first_edge_of (g.F.DayFunctions.hierarchy l.fn.functions).edges l.rank) l.higher-index))
      (g.F.DayFunctions.calls l.fn.functions) (g.F.DayFunctions.calls l.functions);
}
