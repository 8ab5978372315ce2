use Rattle.std.proofs.Common.{leb, rules}
use Rattle.std.proofs.lemmas.List.Sorted.{IsPartitionPoint-from_clause, IsPartitionedBy-leb}
use Rattle.cu_model.specs.declared.profiles.Piece.{Piece}
use Rattle.cu_model.proofs.profiles.begun.Goals as goal

pub returns-clause-point : goal.returns-clause-point
returns-clause-point c =
    let ps = c.args.pieces.now in
    IsPartitionPoint-from_clause (λ (p : Piece). leb p.from c.args.time) ps c.partition_point.result c.partition_point.ensures.partitioned
    (IsPartitionedBy-leb (λ (p : Piece). p.from) ps c.args.time c.requires) (λ a r f' q. search rules)
