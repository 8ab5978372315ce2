-- The texts that are said on standard error.
use Rattle.std.specs.Prelude.{◌≡◌, ℕ, ◌≤◌, ◌⊎◌, List, [], ◌∷◌, ◌++◌, All}

-- a line of printable bytes, of which a line feed is none
abbrev pub IsLine : List ℕ → Type 0
IsLine line = All (λ byte. 32 ≤ byte) line

-- one text is another with a line behind it
pub record AddsLine (before now : List ℕ) : Type 0 where
  pub line : List ℕ
  pub is_line : IsLine line
  pub now_is : now ≡ before ++ line ++ 10 ∷ []

-- one line, or two
pub record IsAdvice (text : List ℕ) : Type 0 where
  pub first : List ℕ
  pub begins : AddsLine [] first
  pub ends : (text ≡ first) ⊎ AddsLine first text
