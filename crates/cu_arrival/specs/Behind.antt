-- How far one arrival function is behind another.
use Rattle.std.specs.Prelude.{ℕ, List, ◌<◌, ◌+◌}
use Rattle.cu_model.specs.Days.{day}
use Rattle.cu_arrival.specs.declared.runs.Run.{Run}
use Rattle.cu_arrival.specs.Runs.{arrival_value}

-- a limit is later than a function by less than so many seconds, at each second of the day
abbrev pub IsBehind : List Run → List Run → ℕ → Type 0
IsBehind limit function slack = (t : ℕ) → t < day → arrival_value limit t < arrival_value function t + slack
