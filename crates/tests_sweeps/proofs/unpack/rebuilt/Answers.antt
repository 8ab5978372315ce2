use Rattle.tests_sweeps.proofs.unpack.rebuilt.Goals as goal

pub function-requires-clause-keeps : goal.function-requires-clause-keeps
function-requires-clause-keeps c = c.in_ok-rebuilt.ensures.none c.args.hierarchy.now
