use Rattle.std.proofs.Common.{◌≡◌, ℕ, length}
use Rattle.std.specs.List.{Contains}
use Rattle.cu_sweep.specs.Outlooks.{IsNear, ahead_at}
use Rattle.cu_sweep.proofs.looking.copy_above.Given as goal

abbrev pub invariant-ranks : goal.invariant-ranks
invariant-ranks l = record {
  places : length l.into ≡ length l.fn.into;
  near : IsNear l.into;
  copied : (x : ℕ) → Contains l.yielded x → ahead_at l.into x ≡ ahead_at l.fn.from x;
}
