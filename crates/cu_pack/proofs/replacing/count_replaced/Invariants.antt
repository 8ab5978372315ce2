-- The entries of the lists so far are counted.
use Rattle.std.proofs.Common.{◌≡◌, length}
use Rattle.cu_interval.specs.Replacing.{replaced}
use Rattle.cu_pack.proofs.Numbering.CountedStarts.{before_list}
use Rattle.cu_pack.proofs.Rewrites.Replaced.{IsUpTo}
use Rattle.cu_pack.proofs.replacing.count_replaced.Given as goal

abbrev pub invariant-loop-touched : goal.invariant-loop-touched
invariant-loop-touched l = record {
  up_to : IsUpTo l.lists (length l.view.edges) l.touched-index l.next;
  count : l.count ≡ before_list (replaced l.view.lists l.lists) l.next;
}
