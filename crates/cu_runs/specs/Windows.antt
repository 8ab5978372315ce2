-- The windows of a day, and how long a function takes in each of them.
use Rattle.std.specs.Prelude.{ℕ, zero, suc, List, ◌≡◌, ◌≤◌, ◌<◌, ◌+◌, ◌⊎◌, min, nat_lt, if◌then◌else◌}
use Rattle.std.proofs.Common.{get_or}
use Rattle.cu_model.specs.Days.{day}
use Rattle.cu_runs.specs.declared.windows.TheConstants.{WIDTHS, WINDOWS}
use Rattle.cu_runs.specs.declared.windows.Windows.{Windows}

-- the second at which a window begins, and the end of the day behind the last one
abbrev pub window_start : Windows → ℕ → ℕ
window_start windows zero = 0
window_start windows (suc before) = if nat_lt before WIDTHS then min day (window_start windows before + get_or windows.widths before 0) else day

-- a second in a window
abbrev pub IsIn : Windows → ℕ → ℕ → Type 0
IsIn windows window t = (window_start windows window ≤ t) × (t < window_start windows (window + 1))

-- from one second until another it takes no less
abbrev pub TakesBetween : (ℕ → ℕ) → ℕ → ℕ → ℕ → Type 0
TakesBetween f from until least = (t : ℕ) → from ≤ t → t < until → t + least ≤ f t

-- and no more
abbrev pub TakesUpToBetween : (ℕ → ℕ) → ℕ → ℕ → ℕ → Type 0
TakesUpToBetween f from until most = (t : ℕ) → from ≤ t → t < until → f t ≤ t + most

-- each of the first numbers, so many, is one for its place
abbrev pub AreEach : (ℕ → ℕ → Type 0) → List ℕ → ℕ → Type 0
AreEach IsOne items count = (i : ℕ) → i < count → IsOne i (get_or items i 0)

-- the second at which each window begins, and the end of the day behind the last one
abbrev pub AreStarts : Windows → List ℕ → Type 0
AreStarts windows starts = AreEach (λ window start. start ≡ window_start windows window) starts (WINDOWS + 1)

-- what a function takes at least in each window
abbrev pub TakesInWindows : Windows → (ℕ → ℕ) → List ℕ → Type 0
TakesInWindows windows f least = AreEach (λ window bound. TakesBetween f (window_start windows window) (window_start windows (window + 1)) bound) least WINDOWS

-- a limit that stays, or becomes what a function takes at most from one second until another
abbrev pub IsLowered : (ℕ → ℕ) → ℕ → ℕ → ℕ → ℕ → Type 0
IsLowered f from until old new = (new ≡ old) ⊎ TakesUpToBetween f from until new

-- so in each window
abbrev pub AreLowered : Windows → (ℕ → ℕ) → List ℕ → List ℕ → Type 0
AreLowered windows f old new = (i : ℕ) → i < WINDOWS → IsLowered f (window_start windows i) (window_start windows (i + 1)) (get_or old i 0) (get_or new i 0)
