use Rattle.std.proofs.Common.{take}
use Rattle.cu_interval.specs.Shortcuts.{ways_of}
use Rattle.cu_unpack.specs.Steps.Rebuilding.{IsLeastOf}
use Rattle.cu_unpack.proofs.rebuilding.least_function.Given as goal

abbrev pub invariant-loop-index : goal.invariant-loop-index
invariant-loop-index g l =
    let h = g.W.Ways.hierarchy l.ways in
    IsLeastOf h l.shortcut (take l.index (ways_of h l.shortcut)) l.least
