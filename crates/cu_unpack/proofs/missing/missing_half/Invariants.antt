use Rattle.std.proofs.Common.{None, take}
use Rattle.cu_interval.specs.Shortcuts.{ways_of}
use Rattle.cu_unpack.specs.Steps.Rebuilding.{FindsMissing}
use Rattle.cu_unpack.proofs.missing.missing_half.Given as goal

abbrev pub invariant-loop-index : goal.invariant-loop-index
invariant-loop-index g l =
    let h = g.W.Ways.hierarchy l.ways in
    FindsMissing h (g.K.Known.knows l.known) l.shortcut (take l.index (ways_of h l.shortcut)) None
