use Rattle.tests_files.proofs.sequences.follows_halves.Goals as goal

pub make-requires-clause-kept : goal.make-requires-clause-kept
make-requires-clause-kept c = c.with_room-sequences.ensures c.args.view.now
