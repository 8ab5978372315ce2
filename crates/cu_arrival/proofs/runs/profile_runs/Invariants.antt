use Rattle.std.proofs.Common.{◌≡◌, map, take}
use Rattle.cu_model.specs.Roads.{pieces_of}
use Rattle.cu_arrival.specs.Steps.OfPieces.{run_of}
use Rattle.cu_arrival.proofs.runs.profile_runs.Given as goal

abbrev pub invariant-loop-index : goal.invariant-loop-index
invariant-loop-index g l = l.runs ≡ map run_of (take l.index (pieces_of (g.N.Roads.network l.roads) l.profile))
