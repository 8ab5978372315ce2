use Rattle.std.proofs.Common.{◌≡◌, length}
use Rattle.cu_customize.specs.Steps.Kept.{IsBuildingFrom}
use Rattle.cu_customize.proofs.customizing.build_lists.Given as goal

abbrev pub invariant-loop-rank : goal.invariant-loop-rank
invariant-loop-rank g l = record {
  room : length l.triangles.places.items ≡ l.parts.graph.now.ranks;
  built : IsBuildingFrom l.parts.network.now l.parts.order.now l.parts.graph.now.edges l.rank l.building.functions.items l.building.lists.items;
}
