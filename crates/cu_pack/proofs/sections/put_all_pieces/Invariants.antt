-- The first profiles are put.
use Rattle.std.proofs.Common.{take, flat_map}
use Rattle.cu_pack.specs.Spelling.{piece_bytes}
use Rattle.cu_pack.proofs.sections.put_all_pieces.Given as goal

abbrev pub invariant-loop-profile : goal.invariant-loop-profile
invariant-loop-profile g l = g.T.Target.grows l.fn.bytes l.bytes (flat_map (flat_map piece_bytes) (take l.profile (g.R.Roads.network l.roads).profiles))
