use Rattle.std.proofs.Common.{sym}
use Rattle.cu_pack.proofs.Read.WayRows.{way_slice_long}
use Rattle.cu_pack.proofs.way_slices.WaySlice.len.Goals as goal

pub returns-clause-count : goal.returns-clause-count
returns-clause-count c = let s = c.self.inside in sym (way_slice_long s.body s.at s.count c.args.self.now c.self.invariant c.self.view_is)
