use Rattle.std.proofs.Common.{arith}
use Rattle.cu_recall.proofs.Entries.{asked_inside}
use Rattle.cu_recall.proofs.looking.met_at.Goals as goal

pub met_last-requires-clause-list : goal.met_last-requires-clause-list
met_last-requires-clause-list c = let inside = asked_inside c.args.view.now c.args.asked c.requires.asked in omega (arith, inside, c.requires.size)

pub meet-requires-clause-list : goal.meet-requires-clause-list
meet-requires-clause-list c = let inside = asked_inside c.args.view.now c.args.asked c.requires.asked in omega (arith, inside, c.requires.size)

pub returns-clause-knows : goal.returns-clause-knows
returns-clause-knows c = c.meet.ensures.knows c.args.view.now c.requires.knows c.look_up-met.ensures.met.0
