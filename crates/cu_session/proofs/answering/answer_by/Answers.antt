use Rattle.cu_session.proofs.SessionLaws.{session_ends}
use Rattle.cu_session.proofs.answering.answer_by.Goals as goal

pub returns : goal.returns
returns g c = record { ended = session_ends _ _ _ _ _ _ _ c.answer_lines.ensures.ended }
