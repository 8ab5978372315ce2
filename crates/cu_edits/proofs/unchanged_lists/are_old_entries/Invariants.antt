-- The entries so far are those of the list.
use Rattle.std.proofs.Common.{◌≡◌, length, take}
use Rattle.cu_interval.specs.Hierarchies.{list_of}
use Rattle.cu_edits.proofs.unchanged_lists.are_old_entries.Given as goal

abbrev pub invariant-loop-index : goal.invariant-loop-index
invariant-loop-index g l = record {
  long : length l.entries ≡ length (list_of l.parts.before l.edge l.dir);
  same : take l.index l.entries ≡ take l.index (list_of l.parts.before l.edge l.dir);
}
