use Rattle.tests_files.proofs.walks.same_beside.Goals as goal

pub same_by-requires-3-clause-sequences : goal.same_by-requires-3-clause-sequences
same_by-requires-3-clause-sequences c = c.none-none.ensures c.args.view.now
