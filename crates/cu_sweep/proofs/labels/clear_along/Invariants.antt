-- The labels of the ranks so far were taken away.
use Rattle.std.proofs.Common.{◌≡◌, ℕ, Some, None, take}
use Rattle.std.specs.List.{Contains}
use Rattle.cu_sweep.specs.Places.{second_at}
use Rattle.cu_sweep.proofs.labels.clear_along.Given as goal

abbrev pub invariant-ranks : goal.invariant-ranks
invariant-ranks l = record {
  cleared : (y : ℕ) → Contains (take l.rank-index l.path) y → second_at l.labels y ≡ None;
  kept : (place second : ℕ) → second_at l.labels place ≡ Some second → second_at l.fn.labels place ≡ Some second;
}
