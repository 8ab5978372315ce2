use Rattle.std.proofs.Common.{◌≡◌, ◌<◌, length}
use Rattle.tests_edits.proofs.stores.empty_lists.Given as goal

abbrev pub invariant-lists : goal.invariant-lists
invariant-lists l = record {
  size : length l.store.known ≡ 6;
  room : 0 < l.store.room;
}
