use Rattle.cu_model.specs.Roads.{pieces_of}
use Rattle.cu_runs.proofs.RoadRuns.{piece_from, pieces_more}
use Rattle.cu_runs.proofs.roads.put_pieces.Goals as goal

pub run_of_piece-requires : goal.run_of_piece-requires
run_of_piece-requires g c = piece_from (g.R.Roads.network c.args.roads.now) c.args.profile c.loop-index.index c.piece.result c.piece.ensures.sound c.requires c.piece.ensures.there

pub loop-index-preserved : goal.loop-index-preserved
loop-index-preserved g c =
    pieces_more (pieces_of (g.R.Roads.network c.args.roads.now) c.args.profile) c.args.packed.now.items c.loop-index.packed.items c.push.new.self.items
    c.loop-index.index c.piece.result c.run_of_piece.result c.piece.ensures.there
    c.run_of_piece.ensures c.loop-index.invariant c.in_ok-push.ensures.items
