use Rattle.std.proofs.Common.{arith}
use Rattle.cu_model.specs.Roads.{pieces_of}
use Rattle.cu_pack.specs.Spelling.{piece_bytes}
use Rattle.cu_pack.proofs.Spelled.Growing.{grows_all, grows_more}
use Rattle.cu_pack.proofs.sections.put_pieces.Goals as goal

pub loop-index-init : goal.loop-index-init
loop-index-init g c = g.met.T.Target.stays c.args.bytes.now

pub loop-index-preserved : goal.loop-index-preserved
loop-index-preserved g c =
    grows_more g.T.Target.grows g.met.T.Target.more piece_bytes (pieces_of (g.R.Roads.network c.args.roads.now) c.args.profile) c.loop-index.index c.piece.result
    c.args.bytes.now c.loop-index.bytes c.put_piece.new.bytes c.piece.ensures.there c.loop-index.invariant c.in_ok-put_piece.ensures

pub returns : goal.returns
returns g c = grows_all g.T.Target.grows piece_bytes (pieces_of (g.R.Roads.network c.args.roads.now) c.args.profile) c.loop-index.index c.args.bytes.now c.loop-index.bytes (omega arith) c.loop-index.invariant
