-- What is known is right, and what waits isn't known. Either one more is known, or a lower edge is next.
use Rattle.std.proofs.Common.{◌+◌, ◌*◌, length}
use Rattle.cu_unpack.specs.RebuiltRuns.{IsSized, Learns}
use Rattle.cu_unpack.specs.Steps.PackedRebuilding.{IsUnknown}
use Rattle.cu_unpack.proofs.HalvesFirst.{AreWaitingHalves, next_edge}
use Rattle.cu_unpack.proofs.KnownLists.{count_unknown}
use Rattle.cu_unpack.proofs.packed_rebuilding.learn_all.Given as goal

abbrev pub invariant-shortcuts : goal.invariant-shortcuts
invariant-shortcuts g l = record {
  size : IsSized (length (g.W.Ways.hierarchy l.ways).edges) l.table;
  learns : Learns (g.W.Ways.hierarchy l.ways) l.shortcut.edge l.fn.table l.table;
  waiting : AreWaitingHalves (IsUnknown (g.W.Ways.hierarchy l.ways) l.shortcut.edge l.table) l.waiting.items;
}

abbrev pub decreases-shortcuts : goal.decreases-shortcuts
decreases-shortcuts g l = count_unknown l.table * length (g.W.Ways.hierarchy l.ways).edges + next_edge l.waiting.items l.shortcut
