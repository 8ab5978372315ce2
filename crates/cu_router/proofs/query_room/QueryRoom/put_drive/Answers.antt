use Rattle.std.specs.Prelude.{codes}
use Rattle.cu_io.proofs.Appending.{wrote_same}
use Rattle.cu_drive.specs.DriveAnswers.{says_drive}
use Rattle.cu_drive.specs.RoadTexts.{arrival_text, entered_text}
use Rattle.cu_drive.proofs.DrivenTexts.{seconds_said}
use Rattle.cu_router.proofs.HeldAnswers.{held_answer}
use Rattle.cu_router.proofs.RouteLaws.{swept_alike}
use Rattle.cu_router.proofs.query_room.QueryRoom.put_drive.Goals as goal

pub returns-clause-answer : goal.returns-clause-answer
returns-clause-answer g c =
    let h = c.args.held.now in
    held_answer (says_drive h.network c.args.query.second) h c.put_in.ensures.sound c.args.query c.requires.from c.requires.to c.requires.second

pub returns-clause-wrote : goal.returns-clause-wrote
returns-clause-wrote g c =
    let h = c.args.held.now in
    let second = c.args.query.second in
    wrote_same (swept_alike (arrival_text (codes " drive=") entered_text h.network second) (says_drive h.network second) (seconds_said h.network second) h c.args.query)
    c.put_in.ensures.wrote
