use Rattle.std.proofs.Common.{leb, rules}
use Rattle.std.proofs.lemmas.List.Sorted.{IsPartitionPoint-from_clause, IsPartitionedBy-leb}
use Rattle.cu_arrival.specs.declared.runs.Run.{Run}
use Rattle.cu_runs.proofs.packed_runs.begun.Goals as goal

pub returns-clause-point : goal.returns-clause-point
returns-clause-point c =
    let packed = c.args.packed.now in
    IsPartitionPoint-from_clause (λ (run : Run). leb run.from c.args.second) packed c.partition_point.result c.partition_point.ensures.partitioned
    (IsPartitionedBy-leb (λ (run : Run). run.from) packed c.args.second c.requires) (λ a r f' q. search rules)
