use Rattle.std.proofs.lemmas.Result.{on_ok_weaker}
use Rattle.cu_profile.proofs.RowFacts.{begins_other}
use Rattle.cu_profile.proofs.progress.ProfileRows.begin_row.Goals as goal

pub returns : goal.returns
returns c = on_ok_weaker c.end_profile.result (begins_other c.args.self.now c.end_profile.new.self c.in-Some.last c.args.profile c.in-Some.is c.if-last-profile.false) c.end_profile.ensures
