use Rattle.std.proofs.Common.{◌<◌}
use Rattle.cu_router.specs.Lists.{FitsLists}
use Rattle.cu_router.proofs.known_lists.KnownLists.make_some.Given as goal

abbrev pub invariant-lists : goal.invariant-lists
invariant-lists l = record {
  room : 0 < l.self.store.room;
  fits : FitsLists l.view l.self;
}
