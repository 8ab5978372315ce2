use Rattle.std.proofs.Common.{◌∙◌, sym}
use Rattle.cu_io.proofs.LineLaws.{lines_of_none, lines_of_some}
use Rattle.cu_session.proofs.editing.cut_line.Goals as goal

pub returns-in-Some-clause-lines : goal.returns-in-Some-clause-lines
returns-in-Some-clause-lines c = lines_of_some c.args.text.now c.in-Some.end (sym c.line_feed.ensures ∙ c.in-Some.is)

pub returns-in-None-clause-lines : goal.returns-in-None-clause-lines
returns-in-None-clause-lines c = lines_of_none c.args.text.now c.requires.some (sym c.line_feed.ensures ∙ c.in-None.is)
