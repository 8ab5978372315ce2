use Rattle.std.proofs.Common.{arith}
use Rattle.cu_recall.proofs.Entries.{asked_inside, met_driven, met_road}
use Rattle.cu_recall.proofs.looking.drive_met.Goals as goal

pub drive-driven-requires-clause-road : goal.drive-driven-requires-clause-road
drive-driven-requires-clause-road c = (met_road c.args.view.now c.requires.sound c.args.asked c.args.met c.args.road c.requires.asked c.requires.met c.requires.road).0

pub remember-requires-clause-list : goal.remember-requires-clause-list
remember-requires-clause-list c = let inside = asked_inside c.args.view.now c.args.asked c.requires.asked in omega (arith, inside, c.requires.size)

pub returns-clause-holds : goal.returns-clause-holds
returns-clause-holds c =
    met_driven c.args.view.now c.requires.sound c.args.asked c.args.met c.args.road c.drive-driven.result c.requires.asked c.requires.met c.requires.road c.drive-driven.ensures.drives

pub returns-clause-knows : goal.returns-clause-knows
returns-clause-knows c =
    c.remember.ensures.knows c.args.view.now c.requires.knows
    (met_driven c.args.view.now c.requires.sound c.args.asked c.args.met c.args.road c.drive-driven.result c.requires.asked c.requires.met c.requires.road c.drive-driven.ensures.drives)
