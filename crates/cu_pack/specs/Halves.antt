-- Finders of halves in a file, by rising edge.
use Rattle.std.specs.Prelude.{ℕ, List}

-- a file's bytes, and the lower rank of the edge to which a finder has come
pub record FinderValue : Type 0 where
  pub bytes : List ℕ
  pub low : ℕ

abbrev pub finder_at : List ℕ → ℕ → FinderValue
finder_at bytes low = record { bytes = bytes; low = low }
