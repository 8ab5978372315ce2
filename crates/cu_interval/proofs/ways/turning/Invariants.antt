use Rattle.std.specs.List.{AllAdjacentBelow}
use Rattle.cu_interval.specs.WayLists.{Turns}
use Rattle.cu_interval.proofs.ways.turning.Given as goal

abbrev pub invariant-loop-index : goal.invariant-loop-index
invariant-loop-index l = AllAdjacentBelow Turns l.entries l.index
