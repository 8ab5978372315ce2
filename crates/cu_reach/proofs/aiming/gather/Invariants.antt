use Rattle.std.proofs.Common.{◌≡◌, ◌≤◌, length, take}
use Rattle.cu_reach.specs.Steps.Aiming.{AreGathered}
use Rattle.cu_reach.proofs.aiming.gather.Given as goal

abbrev pub invariant-ranks : goal.invariant-ranks
invariant-ranks l = record {
  marks : length l.marks ≡ length l.fn.marks;
  ranks : length l.ranks ≡ length l.fn.ranks;
  few : l.count ≤ l.rank;
  gathered : AreGathered l.graph l.fn.marks l.rank l.marks (take l.count l.ranks);
}
