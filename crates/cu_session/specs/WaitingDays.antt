-- The reply to a question for a whole day over a network with measured profiles.
use Rattle.std.specs.Prelude.{ℕ, List, ◌≡◌, ◌<◌, ◌⊎◌, codes}
use Rattle.cu_model.specs.Days.{day}
use Rattle.cu_day.specs.DayAnswers.{IsDayText}
use Rattle.cu_wait.specs.Networks.{HasNoRawWalk, IsLeastWaiting, RawNetwork}

-- a function has the least arrival over all walks and all waits at each second of the day
abbrev pub IsLeastWaitingDay : RawNetwork → ℕ → ℕ → (ℕ → ℕ) → Type 0
IsLeastWaitingDay g u v f = (t : ℕ) → t < day → IsLeastWaiting g u v t (f t)

-- the day text of the least waiting arrivals, or `unreachable` exactly where there is no walk
abbrev pub IsWaitingDayAnswer : RawNetwork → ℕ → ℕ → List ℕ → Type 0
IsWaitingDayAnswer g u v text =
    ((f : ℕ → ℕ) × IsLeastWaitingDay g u v f × IsDayText f text)
    ⊎ (HasNoRawWalk g u v × (text ≡ codes "unreachable"))
