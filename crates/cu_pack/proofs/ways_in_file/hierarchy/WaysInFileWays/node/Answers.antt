use Rattle.std.proofs.Common.{◌∙◌, Some, ap, sym, subst, arith}
use Rattle.cu_pack.specs.Steps.Fronts.{SpellsSections}
use Rattle.cu_pack.proofs.Viewed.Views.{node_known, nodes_known}
use Rattle.cu_pack.proofs.Viewed.ViewedEdges.{node_inside}
use Rattle.cu_pack.proofs.ways_in_file.hierarchy.WaysInFileWays.node.Goals as goal

pub node_at-requires : goal.node_at-requires
node_at-requires c =
    let bytes = c.self.inside.sections.now in
    let many = nodes_known bytes c.args.self.now (subst (SpellsSections bytes) c.self.view_is c.self.invariant) in
    record { rank = omega (arith, many, c.requires) }

pub returns-clause-there : goal.returns-clause-there
returns-clause-there c =
    let bytes = c.self.inside.sections.now in
    node_known bytes c.args.self.now (subst (SpellsSections bytes) c.self.view_is c.self.invariant) c.args.rank c.requires ∙ ap Some (sym c.node_at.ensures.node)

pub returns-clause-range : goal.returns-clause-range
returns-clause-range c =
    let bytes = c.self.inside.sections.now in
    let inside = node_inside bytes c.args.self.now (subst (SpellsSections bytes) c.self.view_is c.self.invariant) c.args.rank c.requires in
    omega (arith, inside, c.node_at.ensures.node)
