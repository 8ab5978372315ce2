use Rattle.std.proofs.Common.{leb, rules}
use Rattle.std.proofs.lemmas.List.Sorted.{IsPartitionPoint-from_clause, IsPartitionedBy-leb}
use Rattle.cu_arrival.specs.declared.packing.KeptRun.{KeptRun}
use Rattle.cu_arrival.proofs.packing.begun.Goals as goal

pub returns-clause-point : goal.returns-clause-point
returns-clause-point c =
    let packed = c.args.packed.now in
    IsPartitionPoint-from_clause (λ (kept : KeptRun). leb kept.from c.args.time) packed c.partition_point.result c.partition_point.ensures.partitioned
    (IsPartitionedBy-leb (λ (kept : KeptRun). kept.from) packed c.args.time c.requires) (λ a r f' q. search rules)
