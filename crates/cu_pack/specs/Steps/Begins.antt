-- When an item begins.
use Rattle.std.specs.Prelude.{ℕ, Option, Some, None}
use Rattle.cu_model.specs.Days.{day}

-- the second of an item; the end of the day where there is none
abbrev pub begin_of : {A : Type 0} → (A → ℕ) → Option A → ℕ
begin_of from None = day
begin_of from (Some x) = from x
