use Rattle.std.proofs.Common.{◌++◌, arith, refl}
use Rattle.std.specs.Prelude.{codes}
use Rattle.cu_io.proofs.Appending.{wrote_stops, wrote_then}
use Rattle.cu_desk.specs.Machine.{said_to}
use Rattle.cu_desk.proofs.ClientLaws.{known_client, past_client}
use Rattle.cu_desk.proofs.replies.put_refused.Goals as goal

pub returns-then-client-gt-MAX_CLIENT : goal.returns-then-client-gt-MAX_CLIENT
returns-then-client-gt-MAX_CLIENT g c = record { reply = (codes "refused: client", rw (past_client c.args.client (omega (arith, c.if-client-gt-MAX_CLIENT.true))) refl, c.put_all.ensures.wrote) }

pub returns-in_err-put_client : goal.returns-in_err-put_client
returns-in_err-put_client g c =
    let text = codes "refused: " ++ c.args.word.now in
    record {
      reply = (
        said_to c.args.client text,
        rw (known_client c.args.client (omega (arith, c.if-client-gt-MAX_CLIENT.false))) refl,
        wrote_stops text c.from_residual.ensures.0
            c.in_err-put_client.ensures.wrote,
      );
    }

pub returns-in_err-put_all : goal.returns-in_err-put_all
returns-in_err-put_all g c =
    let text = codes "refused: " ++ c.args.word.now in
    record {
      reply = (
        said_to c.args.client text,
        rw (known_client c.args.client (omega (arith, c.if-client-gt-MAX_CLIENT.false))) refl,
        wrote_then c.in_ok-put_client.ensures.wrote (wrote_stops c.args.word.now c.from_residual-in_err-put_all.ensures.0 c.in_err-put_all.ensures.wrote),
      );
    }

pub returns : goal.returns
returns g c =
    let text = codes "refused: " ++ c.args.word.now in
    record {
      reply = (
        said_to c.args.client text,
        rw (known_client c.args.client (omega (arith, c.if-client-gt-MAX_CLIENT.false))) refl,
        wrote_then c.in_ok-put_client.ensures.wrote (wrote_then c.in_ok-put_all.ensures.wrote c.put_all-3.ensures.wrote),
      );
    }
