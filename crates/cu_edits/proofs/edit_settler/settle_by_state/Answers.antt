use Rattle.cu_edits.proofs.edit_settler.settle_by_state.Goals as goal

pub returns-in_err-hold_packed-clause-holds : goal.returns-in_err-hold_packed-clause-holds
returns-in_err-hold_packed-clause-holds g c = c.hold_packed.ensures.holds c.args.settled.now.items c.requires.holds

pub settle_in_packed-requires-clause-holds : goal.settle_in_packed-requires-clause-holds
settle_in_packed-requires-clause-holds g c = c.hold_packed.ensures.holds c.args.settled.now.items c.requires.holds
