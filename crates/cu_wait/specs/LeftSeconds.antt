-- When one leaves who waits as little as serves.
use Rattle.std.specs.Prelude.{ℕ, zero, suc, ◌≤◌, ◌+◌, nat_le, if◌then◌else◌}
use Rattle.cu_wait.specs.Waits.{IsLeastFrom}

-- the least second from this one on at which the value is the least of all those from this one on
pub record IsLeft (f : ℕ → ℕ) (second left : ℕ) : Type 0 where
  pub later : second ≤ left
  pub least : IsLeastFrom f second (f left)
  pub first : (s : ℕ) → second ≤ s → IsLeastFrom f second (f s) → left ≤ s

-- of this second and so many more, the first at which the value is least
unfoldable pub first_least : (ℕ → ℕ) → (second more : ℕ) → ℕ
first_least f second zero = second
first_least f second (suc more) = if nat_le (f second) (f (first_least f (second + 1) more)) then second else first_least f (second + 1) more

-- That of a whole day from a second on. Where values repeat by days there is no less one later, so that it is where one leaves.
abbrev pub left_at : (ℕ → ℕ) → ℕ → ℕ
left_at f second = first_least f second 86399
