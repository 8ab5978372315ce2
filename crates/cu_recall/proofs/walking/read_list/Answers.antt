use Rattle.std.proofs.Common.{sym, subst}
use Rattle.std.proofs.lemmas.Option.{slice_get-get_or}
use Rattle.cu_recall.specs.declared.walking.Glance.{Glance}
use Rattle.cu_recall.specs.Steps.Walks.{HoldsGlance}
use Rattle.cu_recall.proofs.walking.read_list.Goals as goal

pub returns-clause-holds : goal.returns-clause-holds
returns-clause-holds c h knows =
    let met = (knows c.args.list _ (slice_get-get_or c.args.rows.now c.args.list _ c.requires.list)).met in
    subst (λ (glance : Glance). HoldsGlance h glance) (sym c.alone-2.ensures) (met, met)
