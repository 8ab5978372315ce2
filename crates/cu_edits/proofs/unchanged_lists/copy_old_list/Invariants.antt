-- The entries so far are copied.
use Rattle.std.proofs.Common.{◌≡◌, take}
use Rattle.cu_interval.specs.Hierarchies.{list_of}
use Rattle.cu_edits.proofs.unchanged_lists.copy_old_list.Given as goal

abbrev pub invariant-loop-index : goal.invariant-loop-index
invariant-loop-index g l = l.entries.items ≡ take l.index (list_of l.parts.before l.edge l.dir)
