use Rattle.std.proofs.Common.{take}
use Rattle.cu_interval.specs.Shortcuts.{ways_of}
use Rattle.cu_unpack.specs.Steps.PackedRebuilding.{HoldsLeast}
use Rattle.cu_unpack.proofs.packed_rebuilding.least_function.Given as goal

abbrev pub invariant-loop-index : goal.invariant-loop-index
invariant-loop-index g l =
    let h = g.W.Ways.hierarchy l.ways in
    HoldsLeast h l.shortcut (take l.index (ways_of h l.shortcut)) l.room
