use Rattle.std.proofs.Common.{◌≡◌, length, take}
use Rattle.cu_sweep.proofs.querying.climb.Given as goal

abbrev pub invariant-ranks : goal.invariant-ranks
invariant-ranks l = record {
  count : l.count ≡ length l.yielded;
  path : take l.count l.path ≡ l.yielded;
}
