use Rattle.std.proofs.Common.{◌≤◌, ◌<◌, ◌+◌, ℕ, length}
use Rattle.cu_arrival.specs.Runs.{arrival_value}
use Rattle.cu_runs.proofs.TravelLaws.{begin_of}
use Rattle.cu_filling.proofs.stretches.keeps_order.Given as goal

abbrev pub invariant-runs : goal.invariant-runs
invariant-runs l = record {
  inside : l.index < length l.packed;
  order : (s : ℕ) → s < begin_of l.packed l.index → arrival_value l.packed s ≤ arrival_value l.packed (s + 1);
}
