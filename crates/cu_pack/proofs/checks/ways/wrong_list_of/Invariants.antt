-- The lists of the first edges are right, and the places follow.
use Rattle.std.proofs.Common.{◌≤◌, ◌<◌, ℕ, List}
use Rattle.cu_pack.specs.Reading.{edge_start}
use Rattle.cu_pack.specs.Steps.Cursors.{AreCursors}
use Rattle.cu_pack.specs.Steps.Ways.{AreBothRight}
use Rattle.cu_pack.proofs.checks.ways.wrong_list_of.Given as goal

pub record AreRight (bytes : List ℕ) (low : ℕ) (places : List ℕ) (next : ℕ) : Type 0 where
  pub right : (edge : ℕ) → edge_start bytes low ≤ edge → edge < next → AreBothRight bytes edge
  pub follow : AreCursors bytes low places

abbrev pub invariant-loop-edge : goal.invariant-loop-edge
invariant-loop-edge l = AreRight l.sections l.low l.places l.edge
