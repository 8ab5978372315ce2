use Rattle.std.proofs.Common.{◌≡◌, ◌+◌, ◌*◌, ℕ, arith, subst}
use Rattle.cu_customize.specs.Steps.Kept.{IsBuiltTo}
use Rattle.cu_customize.proofs.Dropped.{keeps_later}
use Rattle.cu_customize.proofs.customizing.settle_edge.Goals as goal

pub returns : goal.returns
returns c =
    let (whole, built, keeps) = c.in_ok-settle_next-2.ensures in
    let edges = c.args.parts.now.graph.now.edges in
    let next : (2 * c.args.edge + 1) + 1 ≡ 2 * (c.args.edge + 1) = omega arith in (
      whole,
      subst (λ (i : ℕ). IsBuiltTo c.args.parts.now.network.now c.args.parts.now.order.now edges i whole c.settle_next-2.new.building.lists.items) next built,
      keeps_later edges c.requires.parts.chordal.rising c.args.edge (c.args.edge + 1) whole c.settle_next-2.new.building.functions.items (omega arith) keeps,
    )
