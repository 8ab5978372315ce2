-- None of the first is wrong, and the places follow.
use Rattle.std.proofs.Common.{◌≤◌, ◌<◌, ℕ, List, min}
use Rattle.cu_pack.specs.Steps.Cursors.{AreCursors}
use Rattle.cu_pack.specs.Steps.Entries.{IsWrongEntry}
use Rattle.cu_pack.proofs.checks.entries.has_wrong_entry.Given as goal

pub record AreRight (bytes : List ℕ) (start from to : ℕ) (places : List ℕ) (next : ℕ) : Type 0 where
  pub none : (entry : ℕ) → start ≤ entry → entry < next → IsWrongEntry bytes start from to entry → ⊥
  pub follow : AreCursors bytes (min from to) places

abbrev pub invariant-loop-entry : goal.invariant-loop-entry
invariant-loop-entry l = AreRight l.sections l.start l.from l.to l.places l.entry
