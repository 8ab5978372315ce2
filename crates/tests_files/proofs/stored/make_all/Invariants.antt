use Rattle.std.proofs.Common.{◌≡◌, ◌<◌, ◌*◌, length}
use Rattle.cu_store.specs.Known.{Knows}
use Rattle.tests_files.proofs.stored.make_all.Given as goal

abbrev pub invariant-edges : goal.invariant-edges
invariant-edges l = record {
  size : length l.store.known ≡ 2 * length l.view.edges;
  knows : Knows l.view l.store.known;
  room : 0 < l.store.room;
}
