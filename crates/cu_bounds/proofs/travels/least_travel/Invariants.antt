use Rattle.std.proofs.Common.{drop}
use Rattle.cu_model.specs.Roads.{pieces_of}
use Rattle.cu_bounds.proofs.ProfileTravels.{AreTaken}
use Rattle.cu_bounds.proofs.travels.least_travel.Given as goal

abbrev pub invariant-loop-index : goal.invariant-loop-index
invariant-loop-index g l = AreTaken (drop l.index (pieces_of (g.R.Roads.network l.roads) l.profile)) l.least l.until
