use Rattle.std.specs.Prelude.{ℕ, List, ◌≤◌, ◌<◌, ◌+◌, ◌-◌, ◌*◌}
use Rattle.cu_pack.specs.Places.{short_at}
use Rattle.cu_pack.proofs.searching.count_up_to.Given as goal

-- those before low are at most the bound, and those from high on above it
pub record IsBetween (bytes : List ℕ) (at width count bound low high : ℕ) : Type 0 where
  pub order : low ≤ high
  pub within : high ≤ count
  pub up_to : (i : ℕ) → i < low → short_at bytes (at + width * i) ≤ bound
  pub above : (i : ℕ) → high ≤ i → i < count → bound < short_at bytes (at + width * i)

abbrev pub invariant-loop-low : goal.invariant-loop-low
invariant-loop-low l = IsBetween l.bytes l.at l.width l.count l.bound l.low l.high

abbrev pub decreases-loop-low : goal.decreases-loop-low
decreases-loop-low l = l.high - l.low
