-- None of the first is wrong.
use Rattle.cu_pack.specs.Checks.{IsWrongProfile, NoneWrong}
use Rattle.cu_pack.proofs.checks.profiles.wrong_profile.Given as goal

abbrev pub invariant-loop-profile : goal.invariant-loop-profile
invariant-loop-profile l = NoneWrong (IsWrongProfile l.sections) l.profile
