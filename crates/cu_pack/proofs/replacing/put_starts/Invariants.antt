-- The starts of the lists so far are put.
use Rattle.std.proofs.Common.{◌≡◌, length, map, flat_map}
use Rattle.std.specs.List.{range_with_len}
use Rattle.cu_interval.specs.Replacing.{replaced}
use Rattle.cu_pack.specs.Spelling.{long}
use Rattle.cu_pack.proofs.Numbering.CountedStarts.{before_list}
use Rattle.cu_pack.proofs.Rewrites.Replaced.{IsUpTo}
use Rattle.cu_pack.proofs.replacing.put_starts.Given as goal

abbrev pub invariant-loop-touched : goal.invariant-loop-touched
invariant-loop-touched g l = record {
  up_to : IsUpTo l.lists (length l.view.edges) l.touched-index l.next;
  start : l.start ≡ before_list (replaced l.view.lists l.lists) l.next;
  put : g.T.Target.grows l.fn.bytes l.bytes (flat_map long (map (before_list (replaced l.view.lists l.lists)) (range_with_len 0 l.next)));
}
