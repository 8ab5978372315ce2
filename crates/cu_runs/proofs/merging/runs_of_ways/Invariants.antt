use Rattle.std.proofs.Common.{◌<◌, length}
use Rattle.cu_model.proofs.Growing.{IsGrown}
use Rattle.cu_runs.specs.declared.merging.WayRun.{WayRun}
use Rattle.cu_runs.specs.Steps.Merging.{least_held}
use Rattle.cu_runs.proofs.ReadLaws.{SaysWay}
use Rattle.cu_runs.proofs.TravelLaws.{begin_of}
use Rattle.cu_runs.proofs.merging.runs_of_ways.Given as goal

abbrev pub invariant-runs : goal.invariant-runs
invariant-runs l = record {
  inside : l.index < length l.least.packed.items;
  grown : IsGrown (λ (r : WayRun). r.from) (λ (r : WayRun). r.way) (SaysWay (least_held l.least)) l.runs.items (begin_of l.least.packed.items l.index);
}
