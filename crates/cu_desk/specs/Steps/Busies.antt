-- What a desk keeps of the edit in work.
use Rattle.std.specs.Prelude.{Option, Some, None, max}
use Rattle.cu_interval.specs.Hierarchies.{HierarchyValue}
use Rattle.cu_router.specs.declared.busy.Busy.{Busy}
use Rattle.cu_router.specs.Working.{FitsBusy, edges_left}
use Rattle.cu_desk.specs.Machine.{Work}

-- the edit in work as replies tell it: its last edge is left until it is published
abbrev pub work_of : Busy → Work
work_of busy = record { client = busy.papers.client; edit = busy.edit; left = max 1 (edges_left busy) }

abbrev pub FitsSome : HierarchyValue → Option Busy → Type 0
FitsSome h None = Unit {0}
FitsSome h (Some busy) = FitsBusy h busy
