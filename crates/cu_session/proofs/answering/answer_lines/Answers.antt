use Rattle.std.proofs.Common.{ap}
use Rattle.cu_io.specs.LineReading.{ReaderState}
use Rattle.cu_session.specs.declared.stops.SessionStop.TheVariants as stop
use Rattle.cu_session.proofs.SessionLaws.{err_is, nothing_done, session_begins}
use Rattle.cu_session.proofs.answering.answer_lines.Goals as goal

pub returns-in_err-reader : goal.returns-in_err-reader
returns-in_err-reader g c =
    rw (err_is c.from_residual.result stop.NoMemory c.from_residual.ensures.1)
    (record { ended = nothing_done g.A.LineAnswerer.replies c.args.answerer.now (g.S.Source.state c.args.source.now) (g.K.Sink.state c.args.sink.now) })

pub lines-init : goal.lines-init
lines-init g c =
    let source = g.S.Source.state c.args.source.now in
    let sink = g.K.Sink.state c.args.sink.now in
    let reader = c.in_ok-reader.reader in
    record {
      session = session_begins g.A.LineAnswerer.replies c.args.answerer.now reader source sink c.in_ok-reader.ensures;
      more = ap (λ (r : ReaderState). r.over) c.in_ok-reader.ensures;
      limit = ap (λ (r : ReaderState). r.line_limit) c.in_ok-reader.ensures;
    }

pub returns-in_err-answer_next : goal.returns-in_err-answer_next
returns-in_err-answer_next g c =
    rw (err_is c.from_residual-in_err-answer_next.result c.in_err-answer_next.field-0.0 c.from_residual-in_err-answer_next.ensures.1)
    (record { ended = c.in_err-answer_next.ensures.turn c.args.answerer.now (g.S.Source.state c.args.source.now) (g.K.Sink.state c.args.sink.now) c.lines.invariant.session })

pub lines-preserved : goal.lines-preserved
lines-preserved g c =
    let (session, more) = rw c.if-branch.true at c.in_ok-answer_next.ensures.turn c.args.answerer.now (g.S.Source.state c.args.source.now) (g.K.Sink.state c.args.sink.now) c.lines.invariant.session in
    record { session = session; more = more; limit = c.in_ok-answer_next.ensures.limit }

pub returns : goal.returns
returns g c =
    record { ended = rw c.if-branch.false at c.in_ok-answer_next.ensures.turn c.args.answerer.now (g.S.Source.state c.args.source.now) (g.K.Sink.state c.args.sink.now) c.lines.invariant.session }
