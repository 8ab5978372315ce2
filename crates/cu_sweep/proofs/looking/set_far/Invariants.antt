use Rattle.std.proofs.Common.{◌≡◌, length}
use Rattle.cu_sweep.specs.Outlooks.{IsNear}
use Rattle.cu_sweep.proofs.looking.set_far.Given as goal

abbrev pub invariant-ranks : goal.invariant-ranks
invariant-ranks l = record {
  places : length l.ahead ≡ length l.fn.ahead;
  near : IsNear l.ahead;
}
