use Rattle.std.proofs.Common.{arith, refl}
use Rattle.std.specs.Prelude.{codes}
use Rattle.cu_io.proofs.Appending.{wrote_stops, wrote_then}
use Rattle.cu_model.specs.Answers.{arrive_text}
use Rattle.cu_router.specs.Swept.{swept_reply}
use Rattle.cu_desk.specs.Machine.{said_to}
use Rattle.cu_desk.proofs.ClientLaws.{known_client, past_client}
use Rattle.cu_router.proofs.HeldAnswers.{held_answer}
use Rattle.cu_desk.proofs.ReplyLaws.{query_reply}
use Rattle.cu_desk.proofs.replies.put_query.Goals as goal

pub returns-then-client-gt-MAX_CLIENT : goal.returns-then-client-gt-MAX_CLIENT
returns-then-client-gt-MAX_CLIENT g c = record {
  reply = (codes "refused: client", rw (past_client c.args.client (omega (arith, c.if-client-gt-MAX_CLIENT.true))) (refl, refl), c.put_all.ensures.wrote);
}

pub returns-in_err-put_client : goal.returns-in_err-put_client
returns-in_err-put_client g c =
    let desk = c.args.desk.now in
    let text = swept_reply desk.published c.args.query in
    let answer = held_answer arrive_text desk.published c.requires.sound c.args.query c.requires.from c.requires.to c.requires.second in
    record {
      reply = (
        said_to c.args.client text,
        rw (known_client c.args.client (omega (arith, c.if-client-gt-MAX_CLIENT.false))) (query_reply desk desk c.args.client c.args.query text answer refl),
        wrote_stops text c.from_residual.ensures.0 c.in_err-put_client.ensures.wrote,
      );
    }

pub returns : goal.returns
returns g c =
    let desk = c.args.desk.now in
    let text = swept_reply desk.published c.args.query in
    record {
      reply = (
        said_to c.args.client text,
        rw (known_client c.args.client (omega (arith, c.if-client-gt-MAX_CLIENT.false))) (query_reply desk _ c.args.client c.args.query text c.put_answer.ensures.answer c.put_answer.ensures.stays),
        wrote_then c.in_ok-put_client.ensures.wrote c.put_answer.ensures.wrote,
      );
    }
