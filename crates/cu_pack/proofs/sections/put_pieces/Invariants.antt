-- The first pieces are put.
use Rattle.std.proofs.Common.{take, flat_map}
use Rattle.cu_model.specs.Roads.{pieces_of}
use Rattle.cu_pack.specs.Spelling.{piece_bytes}
use Rattle.cu_pack.proofs.sections.put_pieces.Given as goal

abbrev pub invariant-loop-index : goal.invariant-loop-index
invariant-loop-index g l = g.T.Target.grows l.fn.bytes l.bytes (flat_map piece_bytes (take l.index (pieces_of (g.R.Roads.network l.roads) l.profile)))
