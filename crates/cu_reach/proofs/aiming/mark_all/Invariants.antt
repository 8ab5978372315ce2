use Rattle.std.proofs.Common.{◌≡◌, ℕ, length, take}
use Rattle.std.specs.List.{Contains}
use Rattle.cu_reach.specs.Steps.Aiming.{IsMarked}
use Rattle.cu_reach.proofs.aiming.mark_all.Given as goal

abbrev pub invariant-ranks : goal.invariant-ranks
invariant-ranks l = record {
  long : length l.marks ≡ length l.fn.marks;
  marked : (rank : ℕ) → Contains (take l.rank-index l.ranks) rank → IsMarked l.marks rank;
  kept : (rank : ℕ) → IsMarked l.fn.marks rank → IsMarked l.marks rank;
}
