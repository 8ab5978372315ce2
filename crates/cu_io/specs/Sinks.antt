-- What a sink tells, and what a text that is written to it leaves.
use Rattle.std.specs.Prelude.{◌≡◌, ℕ, ◌≤◌, List, [], ◌∷◌, ◌++◌, length, Option, is_some, IfSome, Result, Ok, OnOk, OnErr}
use Rattle.cu_io.specs.Counts.{Rose}
use Rattle.cu_io.specs.Transfers.{Appends, AppendsSome}

-- the bytes written, where the sink tells them; how many of them were flushed; and how many faults it has met, up to 2 ^ 64 - 1
pub record SinkState : Type 0 where
  pub written : Option (List ℕ)
  pub flushed : ℕ
  pub faults : ℕ

-- all bytes written were flushed
abbrev pub IsFlushed : SinkState → Type 0
IsFlushed sink = IfSome sink.written (λ bytes. length bytes ≤ sink.flushed)

-- a text was written: whole, or after a fault that the count shows some first bytes of it
pub record Wrote {T E : Type 0} (before now : SinkState) (result : Result T E) (text : List ℕ) : Type 0 where
  pub ok : OnOk result (Appends before.written now.written text)
  pub err : OnErr result (AppendsSome before.written now.written text)
  pub tells : is_some now.written ≡ is_some before.written
  pub flushed : before.flushed ≤ now.flushed
  pub later : before.faults ≤ now.faults
  pub cause : OnErr result (Rose before.faults now.faults)
  pub quiet : OnOk result (now.faults ≡ before.faults)

-- a text was written whole
abbrev pub WroteAll : SinkState → SinkState → List ℕ → Type 0
WroteAll before now text = Wrote {T = Unit {0}} {E = Unit {0}} before now (Ok tt) text

-- a line and the line feed behind it were written and flushed: or, after a fault that the count shows, some first bytes of them written
pub record WroteLine {T E : Type 0} (before now : SinkState) (result : Result T E) (line : List ℕ) : Type 0 where
  pub wrote : Wrote before now result (line ++ 10 ∷ [])
  pub flushed : OnOk result (IsFlushed now)
