use Rattle.tests_files.proofs.recalls.met.Goals as goal

pub new-recall-requires-clause-sequences : goal.new-recall-requires-clause-sequences
new-recall-requires-clause-sequences c = c.none-none.ensures c.args.view.now
