use Rattle.std.proofs.Common.{◌≡◌, ◌-◌, length}
use Rattle.cu_runs.specs.Steps.Merging.{IsBefore}
use Rattle.cu_runs.proofs.CopyLaws.{CopiesTo}
use Rattle.cu_runs.proofs.merging.Next.copy_behind.Given as goal

abbrev pub invariant-runs : goal.invariant-runs
invariant-runs l = record {
  even : length l.self.ways.items ≡ length l.self.packed.items;
  last : IsBefore l.least.packed.items l.index l.until;
  copied : CopiesTo l.least l.first l.until l.fn.self l.self l.index;
}

abbrev pub decreases-runs : goal.decreases-runs
decreases-runs l = length l.least.packed.items - l.index
