-- Those that were met are listed.
use Rattle.std.proofs.Common.{◌≡◌}
use Rattle.cu_day.proofs.days.list_ancestors.Given as goal

abbrev pub invariant-ranks : goal.invariant-ranks
invariant-ranks l = l.path.items ≡ l.yielded
