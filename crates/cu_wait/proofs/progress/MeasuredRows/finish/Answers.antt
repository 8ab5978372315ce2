use Rattle.std.proofs.Common.{refl}
use Rattle.cu_wait.proofs.ReadLaws.{gives_err, gives_ok}
use Rattle.cu_wait.proofs.progress.MeasuredRows.finish.Goals as goal

pub returns-in-None-clause-given : goal.returns-in-None-clause-given
returns-in-None-clause-given c = gives_ok _ _ c.args.self c.end_rows.new.self _ refl refl c.in_ok-end_rows.ensures c.in-None.is

pub returns-in-Some-clause-given : goal.returns-in-Some-clause-given
returns-in-Some-clause-given c = gives_err _ _ c.args.self c.end_rows.new.self _ c.in_ok-end_rows.ensures c.in-Some.is
