use Rattle.std.proofs.Common.{◌-◌}
use Rattle.cu_runs.proofs.WindowLaws.{IsTravelling}
use Rattle.cu_runs.proofs.windows.travels_between.Given as goal

abbrev pub invariant-stretch : goal.invariant-stretch
invariant-stretch l = IsTravelling l.packed l.from l.until l.index l.at l.least l.most

abbrev pub decreases-stretch : goal.decreases-stretch
decreases-stretch l = l.until - l.at
