use Rattle.std.proofs.Common.{◌<◌, length}
use Rattle.cu_arrival.specs.declared.runs.Run.{Run}
use Rattle.cu_arrival.specs.Runs.{arrival_value}
use Rattle.cu_model.proofs.Growing.{IsGrown}
use Rattle.cu_runs.proofs.ReadLaws.{SaysRule}
use Rattle.cu_runs.proofs.TravelLaws.{begin_of}
use Rattle.cu_runs.proofs.compacting.compact.Given as goal

abbrev pub invariant-runs : goal.invariant-runs
invariant-runs l = record {
  inside : l.index < length l.packed;
  grown : IsGrown (λ (r : Run). r.from) (λ (r : Run). r.rule) (SaysRule (arrival_value l.packed)) l.list.items (begin_of l.packed l.index);
}
