use Rattle.std.proofs.Common.{[]}
use Rattle.std.specs.List.{flat_map, range_with_len}
use Rattle.cu_roads.specs.Grids.{ends_of_node}
use Rattle.cu_roads.specs.Steps.DrawnRoads.{AddsRoads}
use Rattle.cu_roads.proofs.grids.draw_roads.Given as goal

abbrev pub invariant-loop-node : goal.invariant-loop-node
invariant-loop-node l = AddsRoads (flat_map (ends_of_node l.width l.height) (range_with_len 0 l.node)) [] l.fn.draws l.roads.items l.draws
