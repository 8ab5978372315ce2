use Rattle.std.proofs.Common.{◌++◌, ◌∙◌, arith, decimal, refl, sym}
use Rattle.std.specs.Prelude.{codes}
use Rattle.cu_io.proofs.Appending.{wrote_stops, wrote_then}
use Rattle.cu_desk.specs.Machine.{Fails, said_to}
use Rattle.cu_desk.specs.Says.{begun_text}
use Rattle.cu_desk.proofs.ClientLaws.{edit_known, edit_unknown}
use Rattle.cu_desk.proofs.ReplyLaws.{asked_so, begun_reply, busy_reply, none_owned}
use Rattle.cu_desk.proofs.replies.put_edit.Goals as goal

pub returns-then-client-gt-MAX_CLIENT : goal.returns-then-client-gt-MAX_CLIENT
returns-then-client-gt-MAX_CLIENT g c =
    let desk = c.args.desk.now in
    let unknown = edit_unknown c.args.client _ c.requires.sound (omega (arith, c.if-client-gt-MAX_CLIENT.true)) in
    record { reply = (codes "refused: client", asked_so desk desk (Fails (codes "client")) _ _ unknown (refl, refl), c.put_all.ensures.wrote) }

pub returns-in_err-put_client : goal.returns-in_err-put_client
returns-in_err-put_client g c =
    let desk = c.args.desk.now in
    let owner = c.in-Some.owner in
    let known = edit_known c.args.client _ c.requires.sound (omega (arith, c.if-client-gt-MAX_CLIENT.false)) in
    let busy = busy_reply desk c.args.client owner _ c.requires.sound (sym c.in-Some.is ∙ c.owner.ensures.owner) in
    let text = codes "busy " ++ decimal owner in
    record { reply = (said_to c.args.client text, asked_so desk desk _ _ _ known busy, wrote_stops text c.from_residual.ensures.0 c.in_err-put_client.ensures.wrote) }

pub returns-in-Some : goal.returns-in-Some
returns-in-Some g c =
    let desk = c.args.desk.now in
    let owner = c.in-Some.owner in
    let known = edit_known c.args.client _ c.requires.sound (omega (arith, c.if-client-gt-MAX_CLIENT.false)) in
    let busy = busy_reply desk c.args.client owner _ c.requires.sound (sym c.in-Some.is ∙ c.owner.ensures.owner) in
    let text = codes "busy " ++ decimal owner in
    record { reply = (said_to c.args.client text, asked_so desk desk _ _ _ known busy, wrote_then c.in_ok-put_client.ensures.wrote c.put_word_and_number.ensures.wrote) }

pub begin_checked-begun-requires-clause-idle : goal.begin_checked-begun-requires-clause-idle
begin_checked-begun-requires-clause-idle g c = none_owned c.args.desk.now.work (sym c.in_default.is ∙ c.owner.ensures.owner)

pub returns-in_err-put_client-2 : goal.returns-in_err-put_client-2
returns-in_err-put_client-2 g c =
    let desk = c.args.desk.now in
    let known = edit_known c.args.client _ c.requires.sound (omega (arith, c.if-client-gt-MAX_CLIENT.false)) in
    let none = none_owned desk.work (sym c.in_default.is ∙ c.owner.ensures.owner) in
    let (edit, is, begins) = c.begin_checked-begun.ensures.begun in
    let text = begun_text c.begin_checked-begun.result in
    record {
      reply = (
        said_to c.args.client text,
        asked_so desk _ _ _ _ known (begun_reply desk _ c.args.client _ edit (said_to c.args.client text) is none begins),
        wrote_stops text c.from_residual-in_err-put_client-2.ensures.0 c.in_err-put_client-2.ensures.wrote,
      );
    }

pub returns : goal.returns
returns g c =
    let desk = c.args.desk.now in
    let known = edit_known c.args.client _ c.requires.sound (omega (arith, c.if-client-gt-MAX_CLIENT.false)) in
    let none = none_owned desk.work (sym c.in_default.is ∙ c.owner.ensures.owner) in
    let (edit, is, begins) = c.begin_checked-begun.ensures.begun in
    let text = begun_text c.begin_checked-begun.result in
    record {
      reply = (
        said_to c.args.client text,
        asked_so desk _ _ _ _ known (begun_reply desk _ c.args.client _ edit (said_to c.args.client text) is none begins),
        wrote_then c.in_ok-put_client-2.ensures.wrote c.put_begun.ensures.wrote,
      );
    }
