-- Functions of the least arrivals over all low walks.
use Rattle.std.specs.Prelude.{ℕ, List, Option, Some, None}
use Rattle.cu_model.specs.Networks.{NetworkValue}
use Rattle.cu_model.specs.Orders.{OrderValue}
use Rattle.cu_arrival.specs.declared.runs.Run.{Run}
use Rattle.cu_arrival.specs.Runs.{arrival_value}
use Rattle.cu_interval.specs.Low.{HasLowWalk, IsLeastLowDrive}

-- the least arrival over all low walks from u to v at every second; none where no low walk leads there
abbrev pub IsLeastFunction : NetworkValue → OrderValue → ℕ → ℕ → Option (List Run) → Type 0
IsLeastFunction g o u v None = HasLowWalk g o u v → ⊥
IsLeastFunction g o u v (Some runs) = (t : ℕ) → IsLeastLowDrive g o u v t (arrival_value runs t)
