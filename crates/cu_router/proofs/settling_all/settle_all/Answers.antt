use Rattle.cu_router.proofs.settling_all.settle_all.Goals as goal

pub over_all-settler-requires-clause-edits : goal.over_all-settler-requires-clause-edits
over_all-settler-requires-clause-edits g c = c.requires.edits.network
