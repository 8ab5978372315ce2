-- Numbers that stand in bytes every so many bytes, from a place on: a column of a table.
use Rattle.std.specs.Prelude.{ℕ, List, ◌≤◌, ◌<◌, ◌+◌, ◌*◌}
use Rattle.cu_pack.specs.Places.{short_at}

-- none is less than one before it
abbrev pub ColumnRises : List ℕ → (at width count : ℕ) → Type 0
ColumnRises bytes at width count = (i j : ℕ) → i < j → j < count → short_at bytes (at + width * i) ≤ short_at bytes (at + width * j)

-- those before this one are at most a bound, and the others above it
pub record IsCountUpTo (bytes : List ℕ) (at width count bound number : ℕ) : Type 0 where
  pub within : number ≤ count
  pub up_to : (i : ℕ) → i < number → short_at bytes (at + width * i) ≤ bound
  pub above : (i : ℕ) → number ≤ i → i < count → bound < short_at bytes (at + width * i)
