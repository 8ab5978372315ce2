-- Both stand for the hierarchy that they stood for at first.
use Rattle.std.proofs.Common.{◌≡◌}
use Rattle.tests_files.proofs.walks.are_same.Given as goal

abbrev pub invariant-seconds : goal.invariant-seconds
invariant-seconds l = record {
  unpacker : l.unpacker ≡ l.fn.unpacker;
  recall : l.recall ≡ l.fn.recall;
}
