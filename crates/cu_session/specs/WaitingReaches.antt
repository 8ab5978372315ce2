-- What reaches, tables and latest departures say over a network with measured profiles.
use Rattle.std.specs.Prelude.{ℕ, Option, Some, None}
use Rattle.cu_reach.specs.declared.departures.Departure.{Departure}
use Rattle.cu_reach.specs.Departures.{IsLatestOf}
use Rattle.cu_wait.specs.Networks.{HasNoRawWalk, IsLeastWaiting, RawNetwork}

-- the least arrival over all walks and all waits, and none where there is no walk
abbrev pub IsWaitingTime : RawNetwork → ℕ → ℕ → ℕ → Option ℕ → Type 0
IsWaitingTime g u v t None = HasNoRawWalk g u v
IsWaitingTime g u v t (Some arrival) = IsLeastWaiting g u v t arrival

-- the latest departure by these
abbrev pub IsLatestWaiting : RawNetwork → ℕ → ℕ → ℕ → Departure → Type 0
IsLatestWaiting g u v by departure = IsLatestOf (λ second arrival. IsLeastWaiting g u v second arrival) (HasNoRawWalk g u v) by departure
