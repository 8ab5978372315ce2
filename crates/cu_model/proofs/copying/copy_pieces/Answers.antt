use Rattle.cu_model.specs.Roads.{pieces_of}
use Rattle.cu_model.proofs.Copied.{take_next}
use Rattle.cu_model.proofs.copying.copy_pieces.Goals as goal

pub loop-index-preserved : goal.loop-index-preserved
loop-index-preserved g c =
    take_next (pieces_of (g.N.Roads.network c.args.roads.now) c.args.profile) c.loop-index.pieces.items c.push.new.self.items c.loop-index.index c.piece.result
    c.piece.ensures.there c.loop-index.invariant c.in_ok-push.ensures.items
