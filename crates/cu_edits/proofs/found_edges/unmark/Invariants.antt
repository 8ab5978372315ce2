-- The marks with the numbers so far are taken away.
use Rattle.std.proofs.Common.{◌≡◌, ◌<◌, ℕ, true, Some, length, slice_get, get_or}
use Rattle.cu_edits.proofs.found_edges.unmark.Given as goal

abbrev pub invariant-numbers : goal.invariant-numbers
invariant-numbers l = record {
  long : length l.marks ≡ length l.fn.marks;
  left : (k : ℕ) → slice_get l.marks k ≡ Some true → (slice_get l.fn.marks k ≡ Some true) × ((i : ℕ) → i < l.number-index → get_or l.numbers i 0 ≡ k → ⊥);
}
