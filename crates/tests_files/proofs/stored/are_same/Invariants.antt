-- Both stand for the hierarchy that they stood for at first.
use Rattle.std.proofs.Common.{◌≡◌}
use Rattle.tests_files.proofs.stored.are_same.Given as goal

abbrev pub invariant-seconds : goal.invariant-seconds
invariant-seconds l = record {
  plain : l.plain ≡ l.fn.plain;
  stored : l.stored ≡ l.fn.stored;
}
