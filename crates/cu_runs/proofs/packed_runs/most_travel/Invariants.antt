use Rattle.std.proofs.Common.{◌<◌, length}
use Rattle.cu_arrival.specs.Runs.{arrival_value}
use Rattle.cu_runs.proofs.TravelLaws.{IsMostBefore, begin_of}
use Rattle.cu_runs.proofs.packed_runs.most_travel.Given as goal

abbrev pub invariant-runs : goal.invariant-runs
invariant-runs l = record {
  inside : l.index < length l.packed;
  most : IsMostBefore (arrival_value l.packed) l.most (begin_of l.packed l.index);
}
