use Rattle.std.proofs.Common.{◌≡◌, length, None}
use Rattle.std.specs.Prelude.{All}
use Rattle.cu_day.proofs.days.no_labels.Given as goal

abbrev pub invariant-ranks : goal.invariant-ranks
invariant-ranks l = record {
  count : length l.labels.items ≡ l._rank;
  none : All (λ o. o ≡ None) l.labels.items;
}
