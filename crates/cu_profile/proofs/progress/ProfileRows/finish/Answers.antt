use Rattle.std.proofs.Common.{arith}
use Rattle.cu_profile.proofs.progress.ProfileRows.finish.Goals as goal

pub returns-in-None-clause-pieces : goal.returns-in-None-clause-pieces
returns-in-None-clause-pieces c =
    let sum = c.end_rows.new.self.sum in
    let few = c.end_rows.new.self.few in
    let narrow = c.end_rows.new.self.narrow in
    omega (arith, sum, few, narrow)
