-- The lists of the first ranks' edges are right, and the places follow.
use Rattle.std.proofs.Common.{◌<◌, ℕ, List}
use Rattle.cu_pack.specs.Reading.{edge_start}
use Rattle.cu_pack.specs.Steps.Cursors.{AreCursors}
use Rattle.cu_pack.specs.Steps.Ways.{AreBothRight}
use Rattle.cu_pack.proofs.checks.ways.first_wrong_list.Given as goal

pub record AreRight (bytes : List ℕ) (places : List ℕ) (low : ℕ) : Type 0 where
  pub right : (edge : ℕ) → edge < edge_start bytes low → AreBothRight bytes edge
  pub follow : AreCursors bytes low places

abbrev pub invariant-loop-low : goal.invariant-loop-low
invariant-loop-low l = AreRight l.sections l.places l.low
