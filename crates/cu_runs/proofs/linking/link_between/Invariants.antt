use Rattle.std.proofs.Common.{◌-◌}
use Rattle.cu_runs.proofs.RangeLaws.{IsLinking}
use Rattle.cu_runs.proofs.linking.link_between.Given as goal

abbrev pub invariant-stretch : goal.invariant-stretch
invariant-stretch l = IsLinking l.first l.second l.linked.items l.place l.from l.until l.index l.at

abbrev pub decreases-stretch : goal.decreases-stretch
decreases-stretch l = l.until - l.at
