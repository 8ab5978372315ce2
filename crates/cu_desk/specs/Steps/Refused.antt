-- The reply to a line that fails a check.
use Rattle.std.specs.Prelude.{ℕ, List, ◌++◌, ◌≡◌, codes}
use Rattle.cu_desk.specs.Machine.{DeskAsked, FailsFor, Fails, said_to}

-- the reply to what fails a check, whatever the desk is; nothing else has one
abbrev pub IsRefusal : DeskAsked → List ℕ → Type 0
IsRefusal (FailsFor client words) reply = reply ≡ said_to client (codes "refused: " ++ words)
IsRefusal (Fails words) reply = reply ≡ codes "refused: " ++ words
IsRefusal _ reply = ⊥
