use Rattle.std.proofs.lemmas.Result.{on_ok_weaker}
use Rattle.cu_profile.proofs.RowFacts.{ends_some}
use Rattle.cu_profile.proofs.progress.ProfileRows.end_rows.Goals as goal

pub returns : goal.returns
returns c = on_ok_weaker c.end_profile.result (ends_some c.args.self.now c.end_profile.new.self c.in-Some.field-0 c.in-Some.is) c.end_profile.ensures
