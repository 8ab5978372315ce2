use Rattle.std.proofs.Common.{◌≡◌, length, None}
use Rattle.std.specs.Prelude.{All}
use Rattle.cu_unpack.proofs.rebuilding.Rebuilt.new.Given as goal

abbrev pub invariant-lists : goal.invariant-lists
invariant-lists l = record {
  count : length l.kept.items ≡ l._number;
  none : All (λ o. o ≡ None) l.kept.items;
}
