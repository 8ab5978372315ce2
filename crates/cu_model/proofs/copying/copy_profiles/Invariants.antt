use Rattle.std.proofs.Common.{◌≡◌, take}
use Rattle.cu_model.proofs.copying.copy_profiles.Given as goal

abbrev pub invariant-loop-profile : goal.invariant-loop-profile
invariant-loop-profile g l = l.profiles.items ≡ take l.profile (g.N.Roads.network l.roads).profiles
