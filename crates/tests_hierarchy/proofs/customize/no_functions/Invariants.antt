use Rattle.std.proofs.Common.{◌≡◌, length}
use Rattle.tests_hierarchy.proofs.customize.no_functions.Given as goal

abbrev pub invariant-loop : goal.invariant-loop
invariant-loop l = length l.functions.items ≡ l.counter
