use Rattle.std.proofs.Common.{◌≡◌, false}
use Rattle.tests_tables.proofs.devices.lines.add_answers.Given as goal

abbrev pub invariant-loop : goal.invariant-loop
invariant-loop l = l.reader.over ≡ false
