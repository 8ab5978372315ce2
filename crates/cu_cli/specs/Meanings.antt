-- What a command means: how its work ends, when it can be done, and what may stop it then.
use Rattle.std.specs.Prelude.{Bool, true, false, Option, Some, None}
use Rattle.cu_io.specs.Shelves.{ShelfState}
use Rattle.cu_cli.specs.declared.stops.Stop.{Stop}
use Rattle.cu_cli.specs.declared.stops.Stop.TheVariants as stop
use Rattle.cu_cli.specs.Endings.{Ending, StopsBefore}

-- how its work ends, by the shelf before and after it; whether it answers the script of the source; that it can be done with the files
-- as they are; and what may stop it then, besides want of memory, though nothing fails
pub record Meaning : Type 1 where
  pub ends : ShelfState → ShelfState → Ending → Type 0
  pub script : Bool
  pub can : ShelfState → Type 0
  pub stops : Stop → Type 0

-- nothing but want of memory
abbrev pub nothing_else : Stop → Type 0
nothing_else why = ⊥

-- words that are no command's
abbrev pub no_command : Meaning
no_command = record { ends = λ before now. StopsBefore stop.Words; script = false; can = λ before. ⊥; stops = nothing_else }

-- the first meaning where the test is passed, and else the second
infix 5 when◌asks◌else◌
abbrev pub when◌asks◌else◌ : Bool → Meaning → Meaning → Meaning
when true asks first else second = first
when false asks first else second = second

-- what a value that words give asks for; where they give none they are no command's
abbrev pub given : {Value : Type 0} → Option Value → (Value → Meaning) → Meaning
given None asks_for = no_command
given (Some value) asks_for = asks_for value
