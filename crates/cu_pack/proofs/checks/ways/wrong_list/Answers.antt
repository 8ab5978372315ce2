use Rattle.std.proofs.Common.{◌∙◌, sym, subst}
use Rattle.cu_pack.specs.Steps.Cursors.{AreCursors}
use Rattle.cu_pack.proofs.Numbering.Cursors.{cursors_start}
use Rattle.cu_pack.proofs.checks.ways.wrong_list.Goals as goal

pub first_wrong_list-requires-clause-places : goal.first_wrong_list-requires-clause-places
first_wrong_list-requires-clause-places c =
    let bytes = c.args.sections.now in
    subst (AreCursors bytes 0) (sym (c.deref_mut.ensures.value ∙ c.in_ok-places.ensures.starts)) (cursors_start bytes c.requires.graph)
