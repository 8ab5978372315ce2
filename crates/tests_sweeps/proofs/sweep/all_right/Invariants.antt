use Rattle.std.proofs.Common.{◌≡◌}
use Rattle.tests_sweeps.proofs.sweep.all_right.Given as goal

abbrev pub invariant-rows : goal.invariant-rows
invariant-rows g l = l.desk.nodes ≡ 3
