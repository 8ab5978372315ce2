use Rattle.std.proofs.Common.{◌<◌, length}
use Rattle.cu_arrival.specs.Runs.{arrival_value}
use Rattle.cu_runs.proofs.TravelLaws.{IsLeastBefore, begin_of}
use Rattle.cu_runs.proofs.packed_runs.least_travel.Given as goal

abbrev pub invariant-runs : goal.invariant-runs
invariant-runs l = record {
  inside : l.index < length l.packed;
  least : IsLeastBefore (arrival_value l.packed) l.least (begin_of l.packed l.index);
}
