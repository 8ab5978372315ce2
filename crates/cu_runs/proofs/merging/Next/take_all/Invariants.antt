use Rattle.std.proofs.Common.{◌≡◌, ◌<◌, length}
use Rattle.cu_runs.proofs.FirstLaws.{TakenTo}
use Rattle.cu_runs.proofs.merging.Next.take_all.Given as goal

abbrev pub invariant-runs : goal.invariant-runs
invariant-runs l = record {
  inside : l.index < length l.packed;
  even : length l.self.ways.items ≡ length l.self.packed.items;
  same : l.self.index ≡ l.fn.self.index;
  taken : TakenTo l.packed l.way l.self l.index;
}
