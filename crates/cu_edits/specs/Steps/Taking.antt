-- Functions that are known after an edit: those of lists that stand as before, and those of lists that it moved.
use Rattle.std.specs.Prelude.{ℕ, List, Option, Some, ◌≡◌, ◌≤◌, ◌<◌, ◌⊎◌, slice_get}
use Rattle.cu_arrival.specs.declared.runs.Run.{Run}
use Rattle.cu_interval.specs.declared.ways.Dir.{Dir}
use Rattle.cu_interval.specs.Hierarchies.{list_number}
use Rattle.cu_unpack.specs.RebuiltRuns.{IsKnownList, IsSameList, IsSized, PackedValue, with_list}
use Rattle.cu_edits.specs.Steps.Moving.{IsMovedTo, IsUnmoved, MovedValue}

-- the function of one list was taken, if the list was moved
abbrev pub TakesList : MovedValue → PackedValue → PackedValue → ℕ → Dir → Type 0
TakesList moved before now edge dir = (IsUnmoved moved edge dir × (now ≡ before))
    ⊎ ((function : Option (List Run)) × IsMovedTo moved edge dir function × (now ≡ with_list before (list_number edge dir) function))

-- a list is as it was, or it was moved and its function is known
abbrev pub IsTaken : MovedValue → PackedValue → PackedValue → ℕ → Dir → Type 0
IsTaken moved before now edge dir = (IsUnmoved moved edge dir × IsSameList before now (list_number edge dir))
    ⊎ ((function : Option (List Run)) × IsMovedTo moved edge dir function × IsKnownList now (list_number edge dir)
    × (slice_get now.functions (list_number edge dir) ≡ Some function))

-- so it is with the lists of the first edges; all others are as they were
pub record HasTaken (moved : MovedValue) (before now : PackedValue) (count : ℕ) : Type 0 where
  pub size : (edges : ℕ) → IsSized edges before → IsSized edges now
  pub taken : (edge : ℕ) (dir : Dir) → edge < count → IsTaken moved before now edge dir
  pub rest : (edge : ℕ) (dir : Dir) → count ≤ edge → IsSameList before now (list_number edge dir)
