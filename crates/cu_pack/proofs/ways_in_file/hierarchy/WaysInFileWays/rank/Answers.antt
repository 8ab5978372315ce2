use Rattle.std.proofs.Common.{◌∙◌, Some, ap, sym, subst, arith}
use Rattle.cu_pack.specs.Steps.Fronts.{SpellsSections}
use Rattle.cu_pack.proofs.Viewed.Views.{nodes_known, rank_known}
use Rattle.cu_pack.proofs.Viewed.ViewedEdges.{rank_inside}
use Rattle.cu_pack.proofs.ways_in_file.hierarchy.WaysInFileWays.rank.Goals as goal

pub rank_of-requires : goal.rank_of-requires
rank_of-requires c =
    let bytes = c.self.inside.sections.now in
    let many = nodes_known bytes c.args.self.now (subst (SpellsSections bytes) c.self.view_is c.self.invariant) in
    record { node = omega (arith, many, c.requires) }

pub returns-clause-there : goal.returns-clause-there
returns-clause-there c =
    let bytes = c.self.inside.sections.now in
    rank_known bytes c.args.self.now (subst (SpellsSections bytes) c.self.view_is c.self.invariant) c.args.node c.requires ∙ ap Some (sym c.rank_of.ensures.rank)

pub returns-clause-range : goal.returns-clause-range
returns-clause-range c =
    let bytes = c.self.inside.sections.now in
    let inside = rank_inside bytes c.args.self.now (subst (SpellsSections bytes) c.self.view_is c.self.invariant) c.args.node c.requires in
    omega (arith, inside, c.rank_of.ensures.rank)
