-- Which answers of the system count as faults.
use Rattle.std.specs.Prelude.{ℕ, ◌≡◌, ◌≤◌, Option, Some, None, Result, Ok, IsErr}
use Rattle.cu_io.specs.Counts.{one_more}

-- what an answer of the system hands on, and the count of faults before and now: an error is one more fault, and hands on nothing;
-- any other answer is none, and hands on what it has
abbrev pub Notes : {T E : Type 0} → ℕ → ℕ → Result T E → Option T → Type 0
Notes before now answer (Some value) = (answer ≡ Ok value) × (now ≡ before)
Notes before now answer None = IsErr answer × (now ≡ one_more before) × (before ≤ now)
