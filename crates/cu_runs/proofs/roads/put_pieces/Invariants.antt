use Rattle.std.proofs.Common.{◌≡◌, ◌++◌, map, take}
use Rattle.cu_model.specs.Roads.{pieces_of}
use Rattle.cu_arrival.specs.Steps.OfPieces.{run_of}
use Rattle.cu_runs.proofs.roads.put_pieces.Given as goal

abbrev pub invariant-loop-index : goal.invariant-loop-index
invariant-loop-index g l = l.packed.items ≡ l.fn.packed.items ++ map run_of (take l.index (pieces_of (g.R.Roads.network l.roads) l.profile))
