use Rattle.std.proofs.lemmas.List.{append-nil}
use Rattle.cu_io.proofs.Appending.{line_then, line_stops, line_same}
use Rattle.cu_session.proofs.waiting.WaitingRouterLineAnswerer.answer_line.Goals as goal

pub returns-in_err-put_waiting_reply : goal.returns-in_err-put_waiting_reply
returns-in_err-put_waiting_reply g c =
    let reply = c.in_err-put_waiting_reply.ensures.reply in
    record { reply = (reply.0, reply.1, line_stops c.from_residual.ensures.0 reply.2) }

pub returns : goal.returns
returns g c =
    let reply = c.in_ok-put_waiting_reply.ensures.reply in
    record { reply = (reply.0, reply.1, line_same (append-nil reply.0) (line_then reply.2 c.end_line.ensures.wrote)) }
