-- The edges before the first lead lower, and those from the last on reach.
use Rattle.std.specs.Prelude.{ℕ, suc, List, ◌≤◌, ◌<◌, ◌-◌}
use Rattle.cu_pack.specs.Reading.{edge_start, upper_in}
use Rattle.cu_pack.specs.Steps.Cursors.{IsBefore}
use Rattle.cu_pack.proofs.cutting.Sections.edge_reaching_until.Given as goal

pub record IsBetween (bytes : List ℕ) (low high first last : ℕ) : Type 0 where
  pub order : first ≤ last
  pub within : last ≤ edge_start bytes (suc low)
  pub before : IsBefore bytes low high first
  pub reaches : last < edge_start bytes (suc low) → high ≤ upper_in bytes last

abbrev pub invariant-loop-first : goal.invariant-loop-first
invariant-loop-first l = IsBetween l.self l.low l.high l.first l.last

abbrev pub decreases-loop-first : goal.decreases-loop-first
decreases-loop-first l = l.last - l.first
