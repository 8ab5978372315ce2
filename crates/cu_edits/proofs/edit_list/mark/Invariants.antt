-- The marks with the numbers so far are set.
use Rattle.std.proofs.Common.{◌≡◌, length, drop}
use Rattle.cu_edits.specs.Steps.Adding.{marked_at}
use Rattle.cu_edits.proofs.edit_list.mark.Given as goal

abbrev pub invariant-numbers : goal.invariant-numbers
invariant-numbers l = record {
  long : length l.marks ≡ length l.fn.marks;
  marked : marked_at l.marks (drop l.number-index l.numbers) ≡ marked_at l.fn.marks l.numbers;
}
