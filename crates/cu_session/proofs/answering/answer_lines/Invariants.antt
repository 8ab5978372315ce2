use Rattle.std.proofs.Common.{◌≡◌, false}
use Rattle.cu_session.specs.Scripts.{line_limit}
use Rattle.cu_session.specs.Steps.Turns.{Session, left_to_read}
use Rattle.cu_session.proofs.answering.answer_lines.Given as goal

abbrev pub invariant-lines : goal.invariant-lines
invariant-lines g l = record {
  session : Session g.A.LineAnswerer.replies l.fn.answerer l.answerer (g.S.Source.state l.fn.source) (g.K.Sink.state l.fn.sink) l.reader (g.S.Source.state l.source) (g.K.Sink.state l.sink);
  more : l.reader.over ≡ false;
  limit : l.reader.line_limit ≡ line_limit;
}

abbrev pub decreases-lines : goal.decreases-lines
decreases-lines g l = left_to_read l.reader
