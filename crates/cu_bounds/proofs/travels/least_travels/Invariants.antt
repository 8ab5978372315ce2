use Rattle.std.proofs.Common.{◌≡◌, map, take}
use Rattle.cu_interval.specs.LeastPieces.{pieces_least}
use Rattle.cu_bounds.proofs.travels.least_travels.Given as goal

abbrev pub invariant-loop-profile : goal.invariant-loop-profile
invariant-loop-profile g l = l.travels.items ≡ map pieces_least (take l.profile (g.R.Roads.network l.roads).profiles)
