use Rattle.std.proofs.Common.{leb, rules}
use Rattle.std.proofs.lemmas.List.Sorted.{IsPartitionPoint-from_clause, IsPartitionedBy-leb}
use Rattle.cu_interval.specs.declared.ways.TouchedEdge.{TouchedEdge}
use Rattle.cu_pack.proofs.edited_ways.count_up_to.Goals as goal

pub returns-clause-point : goal.returns-clause-point
returns-clause-point c =
    let lists = c.args.lists.now in
    IsPartitionPoint-from_clause (λ (t : TouchedEdge). leb t.edge c.args.edge) lists c.partition_point.result c.partition_point.ensures.partitioned
    (IsPartitionedBy-leb (λ (t : TouchedEdge). t.edge) lists c.args.edge c.requires) (λ a r f' q. search rules)
