-- So many roads less one of the walk were driven.
use Rattle.std.proofs.Common.{◌≡◌}
use Rattle.cu_interval.specs.Hierarchies.{IsHierarchy}
use Rattle.cu_unpack.proofs.OnWay.{IsOnWay}
use Rattle.cu_unpack.proofs.unpacking.relax_in.Given as goal

abbrev pub invariant-roads : goal.invariant-roads
invariant-roads g l = record {
  stays : g.C.CountedWays.hierarchy l.ways ≡ g.C.CountedWays.hierarchy l.fn.ways;
  sound : IsHierarchy (g.C.CountedWays.hierarchy l.fn.ways);
  last : l._number-end ≡ (g.C.CountedWays.hierarchy l.fn.ways).network.nodes;
  way : IsOnWay (g.C.CountedWays.hierarchy l.fn.ways) l.fn.edge l.fn.dir l.fn.at l.pending l.spot (g.C.CountedWays.steps l.fn.ways) (g.C.CountedWays.steps l.ways) l._number;
}
