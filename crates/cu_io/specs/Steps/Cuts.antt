-- The bytes that a line reader took in its calls so far, and the lines that it cut off them.
use Rattle.std.specs.Prelude.{ℕ, List, [], ◌++◌, ◌+◌, ◌≡◌, Bool, true, false, length}
use Rattle.cu_io.specs.Lines.{feeds, lines_of}

-- the bytes begin with these lines, whatever may come, and the bytes held stand behind them
pub record IsCut (bytes : List ℕ) (lines : List (List ℕ)) (held : List ℕ) (shown : Bool) : Type 0 where
  pub cut : (rest : List ℕ) → (shown ≡ true → rest ≡ []) → lines_of (bytes ++ rest) ≡ lines ++ lines_of (held ++ rest)
  pub ended : shown ≡ false → feeds bytes ≡ length lines + feeds held
