-- The entries of the lists so far are put.
use Rattle.std.proofs.Common.{length, take, flat_map}
use Rattle.cu_interval.specs.Replacing.{replaced}
use Rattle.cu_pack.specs.Spelling.{entry_bytes}
use Rattle.cu_pack.proofs.Rewrites.Replaced.{IsUpTo}
use Rattle.cu_pack.proofs.replacing.put_entries.Given as goal

abbrev pub invariant-loop-touched : goal.invariant-loop-touched
invariant-loop-touched g l = record {
  up_to : IsUpTo l.lists (length l.view.edges) l.touched-index l.next;
  put : g.T.Target.grows l.fn.bytes l.bytes (flat_map (flat_map entry_bytes) (take l.next (replaced l.view.lists l.lists)));
}
