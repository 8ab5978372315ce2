use Rattle.cu_store.proofs.KnowsLaws.{knows_nothing}
use Rattle.tests_files.proofs.stored.filled_store.Goals as goal

pub make_all-requires-clause-knows : goal.make_all-requires-clause-knows
make_all-requires-clause-knows c = knows_nothing c.args.view.now c.in_ok-store.store.known c.in_ok-store.ensures.unknown
