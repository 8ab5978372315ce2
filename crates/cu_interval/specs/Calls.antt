-- What a relaxer tells of its calls.
use Rattle.std.specs.Prelude.{ℕ, List, [], ◌∷◌, ◌++◌, Option, Some, None, ◌≡◌}
use Rattle.cu_interval.specs.declared.relaxing.Call.{Call}
use Rattle.cu_interval.specs.declared.relaxing.Relaxed.{Relaxed}
use Rattle.cu_interval.specs.declared.relaxing.Relaxed.TheVariants.{At, NoWay, Long}

-- a fact of the second at which a relaxation arrives, where it does
abbrev pub IfAt : Relaxed → (ℕ → Type 0) → Type 0
IfAt (At arrival) Fact = Fact arrival
IfAt NoWay Fact = Unit {0}
IfAt Long Fact = Unit {0}

-- calls that are told after a call were told before it, and the call has added itself
abbrev pub Adds : Option (List Call) → Option (List Call) → Call → Type 0
Adds before None call = Unit {0}
Adds before (Some after) call = (calls : List Call) × (before ≡ Some calls) × (after ≡ calls ++ (call ∷ []))
