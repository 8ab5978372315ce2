-- No lower rank from the first one on has a first edge.
use Rattle.std.proofs.Common.{◌≡◌, ◌≤◌, ℕ, Some}
use Rattle.std.specs.Prelude.{slice_get}
use Rattle.cu_links.proofs.buckets.first_held.Given as goal

abbrev pub invariant-ranks : goal.invariant-ranks
invariant-ranks l = (other higher : ℕ) → l.from ≤ higher → slice_get l.firsts higher ≡ Some (Some other) → l.rank ≤ higher
