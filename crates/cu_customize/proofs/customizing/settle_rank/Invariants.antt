use Rattle.std.proofs.Common.{◌+◌, ◌*◌}
use Rattle.cu_customize.specs.Steps.Kept.{IsBuilding}
use Rattle.cu_customize.proofs.customizing.settle_rank.Given as goal

abbrev pub invariant-loop-place : goal.invariant-loop-place
invariant-loop-place l = IsBuilding l.parts.network.now l.parts.order.now l.parts.graph.now.edges (l.first + l.place) (2 * (l.first + l.place)) l.building.functions.items l.building.lists.items
