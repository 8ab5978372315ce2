use Rattle.std.proofs.Common.{◌∙◌, ap, sym, subst, arith}
use Rattle.cu_pack.specs.Steps.Fronts.{SpellsSections}
use Rattle.cu_pack.specs.Reading.{list_in}
use Rattle.cu_pack.specs.Steps.Parts.{HasList}
use Rattle.cu_pack.proofs.Viewed.Views.{has_ways, ways_known}
use Rattle.cu_pack.proofs.ways_in_file.WaysInFile.list.Goals as goal

pub list_number-requires : goal.list_number-requires
list_number-requires c =
    let sound = (subst (SpellsSections c.self.inside.sections.now) c.self.view_is c.self.invariant).sound in
    record { few = omega (arith, c.requires.edge, sound.graph.few_edges) }

pub way_list-requires : goal.way_list-requires
way_list-requires c =
    let bytes = c.self.inside.sections.now in
    let has = has_ways bytes c.args.self.now (subst (SpellsSections bytes) c.self.view_is c.self.invariant) c.args.edge c.args.dir c.requires.edge in
    record { list = subst (HasList bytes) (sym c.list_number.ensures) has }

pub returns-clause-list : goal.returns-clause-list
returns-clause-list c =
    let bytes = c.self.inside.sections.now in
    c.way_list.ensures.entries ∙ ap (list_in bytes) c.list_number.ensures
    ∙ ways_known bytes c.args.self.now (subst (SpellsSections bytes) c.self.view_is c.self.invariant) c.args.edge c.args.dir c.requires.edge
