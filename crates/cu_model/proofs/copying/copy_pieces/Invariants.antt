use Rattle.std.proofs.Common.{◌≡◌, take}
use Rattle.cu_model.specs.Roads.{pieces_of}
use Rattle.cu_model.proofs.copying.copy_pieces.Given as goal

abbrev pub invariant-loop-index : goal.invariant-loop-index
invariant-loop-index g l = l.pieces.items ≡ take l.index (pieces_of (g.N.Roads.network l.roads) l.profile)
