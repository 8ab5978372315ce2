use Rattle.std.proofs.Common.{◌∙◌, arith, ap, length, sym}
use Rattle.cu_interval.specs.Hierarchies.{entries_or_none, list_number}
use Rattle.cu_interval.proofs.EndsLaws.{number_within}
use Rattle.cu_verify.proofs.Agreeing.{take_list}
use Rattle.cu_verify.proofs.comparing.compare_list.Goals as goal

pub returns-in-None : goal.returns-in-None
returns-in-None c =
    let h = c.args.view.now in
    let lists = c.args.built.now in
    let within = number_within c.args.edge (length h.edges) c.args.dir c.requires.edge in
    let stored = c.ways-stored.ensures.sound.lists in
    let built = c.requires.built.sound.lists in
    take_list h.lists lists (list_number c.args.edge c.args.dir) (omega (arith, within, stored)) (omega (arith, within, built)) c.requires.earlier
    (sym c.ways-stored.ensures.list ∙ c.in-None.ensures ∙ c.entries.ensures.all ∙ sym (ap entries_or_none c.list_at-list.ensures))
