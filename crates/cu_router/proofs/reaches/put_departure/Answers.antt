use Rattle.std.proofs.Common.{◌++◌, ◌∙◌, append_assoc, sym}
use Rattle.std.specs.Prelude.{codes}
use Rattle.cu_io.proofs.Appending.{wrote_same, wrote_stops, wrote_then}
use Rattle.cu_model.specs.Answers.{arrive_text}
use Rattle.cu_drive.specs.RoadTexts.{arrival_text, number_text}
use Rattle.cu_drive.proofs.DrivenTexts.{numbers_said}
use Rattle.cu_reach.specs.ReachAnswers.{query_at}
use Rattle.cu_router.specs.Swept.{swept_reply}
use Rattle.cu_router.proofs.RouteLaws.{swept_alike, swept_is}
use Rattle.cu_router.proofs.reaches.put_departure.Goals as goal

pub put_found-requires-clause-found : goal.put_found-requires-clause-found
put_found-requires-clause-found g c = sym (rw c.in-Depart.is at c.requires.departs).2

pub put_found-requires-clause-holds : goal.put_found-requires-clause-holds
put_found-requires-clause-holds g c = rw c.in-Depart.is at c.requires.holds

pub returns-in_err-put_word_and_long-in-Depart-clause-wrote : goal.returns-in_err-put_word_and_long-in-Depart-clause-wrote
returns-in_err-put_word_and_long-in-Depart-clause-wrote g c =
    let rest = codes " " ++ swept_reply c.args.recall.now (query_at c.args.asked c.in-Depart.second) in
    rw c.in-Depart.is (wrote_same (simp append_assoc) (wrote_stops rest c.from_residual.ensures.0 c.in_err-put_word_and_long-in-Depart.ensures.wrote))

pub returns-in_err-put_all-in-Depart-clause-wrote : goal.returns-in_err-put_all-in-Depart-clause-wrote
returns-in_err-put_all-in-Depart-clause-wrote g c =
    let rest = swept_reply c.args.recall.now (query_at c.args.asked c.in-Depart.second) in
    let blank = wrote_then c.in_ok-put_word_and_long-in-Depart.ensures.wrote c.in_err-put_all-in-Depart.ensures.wrote in
    rw c.in-Depart.is (wrote_same (simp append_assoc) (wrote_stops rest c.from_residual-in_err-put_all-in-Depart.ensures.0 blank))

pub returns-in_ok-put_all-in-Depart-clause-wrote : goal.returns-in_ok-put_all-in-Depart-clause-wrote
returns-in_ok-put_all-in-Depart-clause-wrote g c =
    let h = c.args.recall.now in
    let query = query_at c.args.asked c.in-Depart.second in
    let said = arrival_text (codes " arcs=") number_text h.network query.second in
    let same = swept_is said h query c.args.ranks.from c.args.ranks.to c.requires.start c.requires.stop
    ∙ swept_alike said arrive_text (numbers_said h.network query.second) h query in
    let blank = wrote_then c.in_ok-put_word_and_long-in-Depart.ensures.wrote c.in_ok-put_all-in-Depart.ensures.wrote in
    rw c.in-Depart.is (wrote_same (simp append_assoc) (wrote_then blank (wrote_same same c.put_found.ensures.wrote)))
