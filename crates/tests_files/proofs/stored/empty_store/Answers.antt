use Rattle.std.proofs.Common.{◌∙◌, arith, ap}
use Rattle.cu_store.proofs.KnowsLaws.{knows_nothing}
use Rattle.tests_files.proofs.stored.empty_store.Goals as goal

pub returns-clause-size : goal.returns-clause-size
returns-clause-size c = omega (arith, c.without_room.ensures.lists, c.edges.ensures.count)

pub returns-clause-knows : goal.returns-clause-knows
returns-clause-knows c = knows_nothing c.args.view.now c.without_room.result.known c.without_room.ensures.unknown
