-- Functions whose pieces are within their limits.
use Rattle.std.specs.Prelude.{ℕ, ◌≤◌, ◌<◌, ◌+◌}
use Rattle.cu_model.specs.declared.limits.TheConstants.{MAX_TRAVEL}
use Rattle.cu_model.specs.Days.{day}

-- leaving on day 0, no arrival is later than the most seconds that a piece takes
abbrev pub IsNear : (ℕ → ℕ) → Type 0
IsNear f = (second : ℕ) → second < day → f second ≤ second + MAX_TRAVEL
