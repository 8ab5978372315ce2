-- A text that is gathered in a block, of which the first bytes are written.
use Rattle.std.specs.Prelude.{◌≡◌, ◌++◌, [], ℕ, List, Result, Ok, OnOk}
use Rattle.cu_io.specs.Sinks.{SinkState, Wrote}

-- a text was added behind the one that a block held: first bytes of both were written, and where that is Ok the block holds the rest
pub record Gathered {T E : Type 0} (before now : SinkState) (result : Result T E) (held holds text : List ℕ) : Type 0 where
  pub put : List ℕ
  pub rest : List ℕ
  pub whole : put ++ rest ≡ held ++ text
  pub kept : OnOk result (rest ≡ holds)
  pub wrote : Wrote before now result put

-- a text that was gathered from an empty block on, of which the block holds what isn't written
abbrev pub GatheredAll : SinkState → SinkState → List ℕ → List ℕ → Type 0
GatheredAll before now holds text = Gathered {T = Unit {0}} {E = Unit {0}} before now (Ok tt) [] holds text
