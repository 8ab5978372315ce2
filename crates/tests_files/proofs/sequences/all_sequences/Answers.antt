use Rattle.tests_files.proofs.sequences.all_sequences.Goals as goal

pub edges-init : goal.edges-init
edges-init c = c.with_room-sequences.ensures c.args.view.now
