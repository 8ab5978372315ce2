use Rattle.std.proofs.Common.{leb, rules}
use Rattle.std.proofs.lemmas.List.Sorted.{IsPartitionPoint-from_clause, IsPartitionedBy-leb}
use Rattle.cu_interval.specs.declared.ways.Entry.{Entry}
use Rattle.cu_interval.proofs.ways.begun.Goals as goal

pub returns-clause-point : goal.returns-clause-point
returns-clause-point c =
    let es = c.args.entries.now in
    IsPartitionPoint-from_clause (λ (e : Entry). leb e.from c.args.time) es c.partition_point.result c.partition_point.ensures.partitioned
    (IsPartitionedBy-leb (λ (e : Entry). e.from) es c.args.time c.requires) (λ a r f' q. search rules)
