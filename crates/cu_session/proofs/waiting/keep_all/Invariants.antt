-- Those that were met are kept.
use Rattle.std.proofs.Common.{◌≡◌, Some, map}
use Rattle.cu_session.proofs.waiting.keep_all.Given as goal

abbrev pub invariant-profiles : goal.invariant-profiles
invariant-profiles l = l.kept.items ≡ map Some l.yielded
