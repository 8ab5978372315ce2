use Rattle.std.proofs.Common.{◌+◌, ℕ, None, set, subst, sym}
use Rattle.cu_customize.specs.Steps.Kept.{DropsEdge}
use Rattle.cu_customize.proofs.Dropped.{edge_dropped}
use Rattle.cu_customize.proofs.dropping.drop_edge.Goals as goal

pub returns : goal.returns
returns c =
    subst (λ (n : ℕ). DropsEdge c.args.edge c.args.functions.now (set (set c.args.functions.now n None) (n + 1) None)) (sym c.list-up.ensures.number)
    (edge_dropped c.args.edge c.args.functions.now c.requires)
