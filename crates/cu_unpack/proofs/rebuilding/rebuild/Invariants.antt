-- What is kept is right, and what waits is missing. Either one more is kept, or a lower edge is next.
use Rattle.std.proofs.Common.{◌+◌, ◌*◌, length}
use Rattle.cu_unpack.specs.Rebuilds.{IsKept}
use Rattle.cu_unpack.specs.Steps.Rebuilding.{AreKept, IsMissing}
use Rattle.cu_unpack.proofs.HalvesFirst.{AreWaitingHalves, next_edge}
use Rattle.cu_unpack.proofs.KeptFunctions.{count_missing}
use Rattle.cu_unpack.proofs.rebuilding.rebuild.Given as goal

abbrev pub invariant-shortcuts : goal.invariant-shortcuts
invariant-shortcuts g l = record {
  kept : AreKept (g.W.Ways.hierarchy l.ways) l.rebuilt.kept;
  waiting : AreWaitingHalves (IsMissing (g.W.Ways.hierarchy l.ways) (IsKept l.rebuilt.kept)) l.waiting.items;
}

abbrev pub decreases-shortcuts : goal.decreases-shortcuts
decreases-shortcuts g l = count_missing l.rebuilt.kept * length (g.W.Ways.hierarchy l.ways).edges + next_edge l.waiting.items l.shortcut
