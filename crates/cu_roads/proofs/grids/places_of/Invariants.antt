use Rattle.std.proofs.Common.{◌≡◌, map}
use Rattle.std.specs.List.{range_with_len}
use Rattle.cu_roads.specs.Grids.{grid_place}
use Rattle.cu_roads.proofs.grids.places_of.Given as goal

abbrev pub invariant-loop-node : goal.invariant-loop-node
invariant-loop-node l = l.places.items ≡ map (grid_place l.width) (range_with_len 0 l.node)
