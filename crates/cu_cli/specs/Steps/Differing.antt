-- A hierarchy compared with the built one.
use Rattle.std.specs.Prelude.{Option, Some, None}
use Rattle.cu_interval.specs.Hierarchies.{HierarchyValue, IsBuilt}
use Rattle.cu_cli.specs.declared.stops.Difference.{Difference}
use Rattle.cu_cli.specs.Commands.Verify.{IsDifference}

-- the hierarchy is the built one, or this is where it first differs
abbrev pub FindsDifference : HierarchyValue → Option Difference → Type 0
FindsDifference h None = IsBuilt h
FindsDifference h (Some found) = IsDifference h found
