use Rattle.std.proofs.Common.{arith}
use Rattle.cu_session.specs.declared.stops.SessionStop.TheVariants as stop
use Rattle.cu_session.proofs.SessionLaws.{answered, broke, err_is, failed, falls_by, finished, long_reply, spent, text_reply}
use Rattle.cu_session.proofs.answering.answer_next.Goals as goal

pub returns-in_err-answer_line-in-Text-clause-turn : goal.returns-in_err-answer_line-in-Text-clause-turn
returns-in_err-answer_line-in-Text-clause-turn g c = λ h source_before sink_before session.
    (let ((chunk, took, (first, short, quiet), over), text, room) = rw c.in-Text.is at c.next_line.follows.holds-at-none in
    let (reply, is, wrote) = c.in_err-answer_line-in-Text.ensures.reply in
    let right = text_reply g.A.LineAnswerer.replies c.args.answerer.now _ c.next_line.follows.lender-at-none.line c.in-Text.line.now reply (omega (arith, short, session.line_limit)) text is in
    rw (err_is c.from_residual.result stop.Sink c.from_residual.ensures.1) (broke _ _ _ _ _ _ _ _ _ _ session chunk took _ _ reply first quiet room right wrote))

pub returns-in_err-put_line-in-Long-clause-turn : goal.returns-in_err-put_line-in-Long-clause-turn
returns-in_err-put_line-in-Long-clause-turn g c = λ h source_before sink_before session.
    (let ((chunk, took, (line, first, far, quiet), over), shown, room) = rw c.in-Long.is at c.next_line.follows.holds-at-none in
    let right = long_reply g.A.LineAnswerer.replies c.args.answerer.now line (omega (arith, far, session.line_limit)) in
    rw (err_is c.from_residual-in_err-put_line-in-Long.result stop.Sink c.from_residual-in_err-put_line-in-Long.ensures.1)
    (broke _ _ _ _ _ _ _ _ _ _ session chunk took _ line _ first quiet room right c.in_err-put_line-in-Long.ensures.wrote))

pub returns-in-End-clause-turn : goal.returns-in-End-clause-turn
returns-in-End-clause-turn g c = λ h source_before sink_before session.
    (let ((chunk, took, finds, over), shown, room) = rw c.in-End.is at c.next_line.follows.holds-at-none in
    finished _ _ _ _ _ _ _ _ _ _ session chunk took finds)

pub returns-in-Fault-clause-turn : goal.returns-in-Fault-clause-turn
returns-in-Fault-clause-turn g c = λ h source_before sink_before session.
    (let ((chunk, took, finds, over), shown, room) = rw c.in-Fault.is at c.next_line.follows.holds-at-none in
    failed _ _ _ _ _ _ _ _ _ _ session chunk took finds)

pub returns-in-Spent-clause-turn : goal.returns-in-Spent-clause-turn
returns-in-Spent-clause-turn g c = λ h source_before sink_before session.
    (let ((chunk, took, finds, over), shown, room) = rw c.in-Spent.is at c.next_line.follows.holds-at-none in
    spent _ _ _ _ _ _ _ _ _ _ session chunk took finds)

pub returns-in_ok-answer_line-in-Text-clause-turn : goal.returns-in_ok-answer_line-in-Text-clause-turn
returns-in_ok-answer_line-in-Text-clause-turn g c = λ h source_before sink_before session.
    (let ((chunk, took, (first, short, quiet), over), text, room) = rw c.in-Text.is at c.next_line.follows.holds-at-none in
    let (reply, is, wrote) = c.in_ok-answer_line-in-Text.ensures.reply in
    let right = text_reply g.A.LineAnswerer.replies c.args.answerer.now _ c.next_line.follows.lender-at-none.line c.in-Text.line.now reply (omega (arith, short, session.line_limit)) text is in
    (answered _ _ _ _ _ _ _ _ _ _ session chunk took _ _ reply first quiet right wrote, over))

pub returns-in_ok-answer_line-in-Text-clause-falls : goal.returns-in_ok-answer_line-in-Text-clause-falls
returns-in_ok-answer_line-in-Text-clause-falls g c done =
    let ((chunk, took, (first, short, quiet), over), text, room) = rw c.in-Text.is at c.next_line.follows.holds-at-none in
    falls_by _ took first

pub returns-in_ok-put_line-in-Long-clause-turn : goal.returns-in_ok-put_line-in-Long-clause-turn
returns-in_ok-put_line-in-Long-clause-turn g c = λ h source_before sink_before session.
    (let ((chunk, took, (line, first, far, quiet), over), shown, room) = rw c.in-Long.is at c.next_line.follows.holds-at-none in
    let right = long_reply g.A.LineAnswerer.replies c.args.answerer.now line (omega (arith, far, session.line_limit)) in
    (answered _ _ _ _ _ _ _ _ _ _ session chunk took _ line _ first quiet right c.in_ok-put_line-in-Long.ensures.wrote, over))

pub returns-in_ok-put_line-in-Long-clause-falls : goal.returns-in_ok-put_line-in-Long-clause-falls
returns-in_ok-put_line-in-Long-clause-falls g c done =
    let ((chunk, took, (line, first, far, quiet), over), shown, room) = rw c.in-Long.is at c.next_line.follows.holds-at-none in
    falls_by line took first
