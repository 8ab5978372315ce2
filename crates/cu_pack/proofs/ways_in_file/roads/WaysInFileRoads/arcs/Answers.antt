use Rattle.std.proofs.Common.{◌∙◌, ap, subst}
use Rattle.cu_pack.specs.Steps.Fronts.{SpellsSections}
use Rattle.cu_pack.specs.declared.layout.Counts.{Counts}
use Rattle.cu_pack.proofs.Viewed.Views.{arcs_known}
use Rattle.cu_pack.proofs.ways_in_file.roads.WaysInFileRoads.arcs.Goals as goal

pub returns-clause-count : goal.returns-clause-count
returns-clause-count c =
    let bytes = c.self.inside.sections.now in
    ap (λ (n : Counts). n.arcs) c.counts.ensures.counts ∙ arcs_known bytes c.args.self.now (subst (SpellsSections bytes) c.self.view_is c.self.invariant)
