-- What a source tells.
use Rattle.std.specs.Prelude.{ℕ, List, Option}

-- the bytes left, where the source tells them; and how many faults it has met, up to 2 ^ 64 - 1
pub record SourceState : Type 0 where
  pub left : Option (List ℕ)
  pub faults : ℕ
