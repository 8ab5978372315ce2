-- So many roads less one of the walk were driven and written.
use Rattle.std.proofs.Common.{◌≡◌}
use Rattle.cu_io.specs.Sinks.{WroteAll}
use Rattle.cu_interval.specs.Hierarchies.{IsHierarchy}
use Rattle.cu_drive.specs.RoadTexts.{driven_text, first_after}
use Rattle.cu_unpack.proofs.OnWay.{IsOnWay}
use Rattle.cu_unpack.proofs.unpacking.write_in.Given as goal

abbrev pub invariant-roads : goal.invariant-roads
invariant-roads g l = record {
  stays : g.C.CountedWays.hierarchy l.ways ≡ g.C.CountedWays.hierarchy l.fn.ways;
  sound : IsHierarchy (g.C.CountedWays.hierarchy l.fn.ways);
  last : l._number-end ≡ (g.C.CountedWays.hierarchy l.fn.ways).network.nodes;
  way : (w : IsOnWay (g.C.CountedWays.hierarchy l.fn.ways) l.fn.call.edge l.fn.call.dir l.fn.call.second l.pending l.spot (g.C.CountedWays.steps l.fn.ways) (g.C.CountedWays.steps l.ways) l._number)
      × WroteAll (g.K.Sink.state l.fn.sink) (g.K.Sink.state l.sink) (driven_text (g.P.WalkForm.text l.form) (g.C.CountedWays.hierarchy l.fn.ways).network l.fn.first w.done l.fn.call.second) × (l.first ≡ first_after l.fn.first w.done);
}
