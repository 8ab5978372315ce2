-- The lower ends of a graph in two lists.
use Rattle.std.specs.Prelude.{ℕ, List, ◌≡◌, length}
use Rattle.cu_chordal.specs.Lists.{edges_of_lists}
use Rattle.cu_chordal.specs.Steps.Flat.{paired}

-- beside the higher ends these are the lower ends of the edges
pub record AreLows (starts uppers lows : List ℕ) : Type 0 where
  pub long : length lows ≡ length uppers
  pub edges : paired lows uppers ≡ edges_of_lists starts uppers
