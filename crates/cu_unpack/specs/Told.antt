-- Calls that are told as long as there is room.
use Rattle.std.specs.Prelude.{ℕ, List, [], ◌∷◌, ◌++◌, Bool, true, false, Option, Some, None, length, nat_lt, if◌then◌else◌}
use Rattle.cu_interval.specs.declared.relaxing.Call.{Call}
use Rattle.cu_interval.specs.Hierarchies.{HierarchyValue}

-- what a listing relaxer stands for, the calls that it tells, and how many it has room for
pub record ListedValue : Type 0 where
  pub hierarchy : HierarchyValue
  pub calls : Option (List Call)
  pub room : ℕ

-- the calls told after one more: with it where it finds room, and none from then on where it doesn't
abbrev pub told_after : Option (List Call) → ℕ → Call → Option (List Call)
told_after None room call = None
told_after (Some calls) room call = if nat_lt (length calls) room then Some (calls ++ (call ∷ [])) else None

-- calls that are told, unless there were more than their room
pub record ToldCalls : Type 0 where
  pub calls : Option (List Call)
  pub room : ℕ

abbrev pub told_unless : Bool → List Call → Option (List Call)
told_unless true calls = None
told_unless false calls = Some calls
