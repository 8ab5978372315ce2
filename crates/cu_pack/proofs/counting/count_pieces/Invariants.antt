-- The pieces of the first profiles are counted.
use Rattle.std.proofs.Common.{◌≡◌, take}
use Rattle.cu_pack.specs.Spelling.{total}
use Rattle.cu_pack.proofs.counting.count_pieces.Given as goal

abbrev pub invariant-loop-profile : goal.invariant-loop-profile
invariant-loop-profile g l = l.count ≡ total (take l.profile (g.R.Roads.network l.roads).profiles)
