use Rattle.std.proofs.Common.{◌≤◌}
use Rattle.cu_runs.proofs.compacting.count_rules.Given as goal

abbrev pub invariant-loop-index : goal.invariant-loop-index
invariant-loop-index l = l.count ≤ l.index
