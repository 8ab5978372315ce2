use Rattle.std.specs.Prelude.{codes}
use Rattle.cu_io.proofs.Appending.{wrote_same}
use Rattle.cu_model.specs.Answers.{arrive_text}
use Rattle.cu_drive.specs.RoadTexts.{arrival_text, number_text}
use Rattle.cu_drive.proofs.DrivenTexts.{numbers_said}
use Rattle.cu_router.proofs.HeldAnswers.{held_answer}
use Rattle.cu_router.proofs.RouteLaws.{swept_alike}
use Rattle.cu_router.proofs.query_room.QueryRoom.put_answer.Goals as goal

pub returns-clause-answer : goal.returns-clause-answer
returns-clause-answer g c = held_answer arrive_text c.args.held.now c.put_in.ensures.sound c.args.query c.requires.from c.requires.to c.requires.second

pub returns-clause-wrote : goal.returns-clause-wrote
returns-clause-wrote g c =
    let h = c.args.held.now in
    let second = c.args.query.second in
    wrote_same (swept_alike (arrival_text (codes " arcs=") number_text h.network second) arrive_text (numbers_said h.network second) h c.args.query) c.put_in.ensures.wrote
