use Rattle.tests_files.proofs.recalls.recalled.Goals as goal

pub new-recall-requires-clause-sequences : goal.new-recall-requires-clause-sequences
new-recall-requires-clause-sequences g c = c.none-none.ensures c.args.view.now
