use Rattle.std.proofs.Common.{◌-◌}
use Rattle.cu_runs.proofs.CompareLaws.{IsComparing}
use Rattle.cu_runs.proofs.merging.compare.Given as goal

abbrev pub invariant-stretch : goal.invariant-stretch
invariant-stretch l = IsComparing l.least l.candidate l.way l.fn.next l.next l.from l.until l.index l.other l.at

abbrev pub decreases-stretch : goal.decreases-stretch
decreases-stretch l = l.until - l.at
