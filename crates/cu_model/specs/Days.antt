-- Times that repeat by whole days.
use Rattle.std.specs.Prelude.{ℕ, ◌≡◌, ◌≤◌, ◌<◌, ◌+◌, ◌*◌}
use Rattle.cu_model.specs.declared.limits.TheConstants.{DAY}

-- the seconds of a day
abbrev pub day : ℕ
day = DAY

-- a day later everything arrives a day later
abbrev pub RepeatsDaily : (ℕ → ℕ) → Type 0
RepeatsDaily f = (days second : ℕ) → second < day → f (days * day + second) ≡ days * day + f second

-- leaving on day 0, no arrival is before its departure
abbrev pub IsOnward : (ℕ → ℕ) → Type 0
IsOnward f = (second : ℕ) → second < day → second ≤ f second

-- leaving on day 0, one second later never arrives earlier; the second after 86,399 is the next day's first, so midnight is among them
abbrev pub KeepsOrder : (ℕ → ℕ) → Type 0
KeepsOrder f = (second : ℕ) → second < day → f second ≤ f (second + 1)
