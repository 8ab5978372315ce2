use Rattle.std.proofs.Common.{leb, rules}
use Rattle.std.proofs.lemmas.List.Sorted.{IsPartitionPoint-from_clause, IsPartitionedBy-leb}
use Rattle.cu_wait.specs.declared.points.Point.{Point}
use Rattle.cu_wait.proofs.left.begun.Goals as goal

pub returns-clause-point : goal.returns-clause-point
returns-clause-point c =
    let ps = c.args.points.now in
    IsPartitionPoint-from_clause (λ (p : Point). leb p.second c.args.second) ps c.partition_point.result c.partition_point.ensures.partitioned
    (IsPartitionedBy-leb (λ (p : Point). p.second) ps c.args.second c.requires) (λ a r f' q. search rules)
