use Rattle.std.proofs.Common.{arith, refl, sym}
use Rattle.std.specs.Prelude.{codes}
use Rattle.cu_io.proofs.Appending.{wrote_same, wrote_stops, wrote_then}
use Rattle.cu_desk.specs.Machine.{said_to}
use Rattle.cu_desk.specs.Says.{cancel_text}
use Rattle.cu_desk.proofs.ClientLaws.{known_client, past_client}
use Rattle.cu_desk.proofs.replies.put_cancel_reply.Goals as goal

pub returns-then-client-gt-MAX_CLIENT : goal.returns-then-client-gt-MAX_CLIENT
returns-then-client-gt-MAX_CLIENT g c = record {
  reply = (codes "refused: client", rw (past_client c.args.client (omega (arith, c.if-client-gt-MAX_CLIENT.true))) (refl, refl), c.put_all.ensures.wrote);
}

pub returns-in_err-put_client : goal.returns-in_err-put_client
returns-in_err-put_client g c =
    let text = cancel_text c.cancel-is_cancelled.result in
    record {
      reply = (
        said_to c.args.client text,
        rw (known_client c.args.client (omega (arith, c.if-client-gt-MAX_CLIENT.false))) c.cancel-is_cancelled.ensures.reply,
        wrote_stops text c.from_residual.ensures.0 c.in_err-put_client.ensures.wrote,
      );
    }

pub returns : goal.returns
returns g c =
    record {
      reply = (
        said_to c.args.client (cancel_text c.cancel-is_cancelled.result),
        rw (known_client c.args.client (omega (arith, c.if-client-gt-MAX_CLIENT.false))) c.cancel-is_cancelled.ensures.reply,
        wrote_then c.in_ok-put_client.ensures.wrote (wrote_same c.cancel_word.ensures c.put_all-2.ensures.wrote),
      );
    }
