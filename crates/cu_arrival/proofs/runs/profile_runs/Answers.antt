use Rattle.std.proofs.Common.{◌≡◌, ◌<◌, ◌+◌, ◌++◌, [], ◌∷◌, map, take, length, get_or, arith}
use Rattle.std.proofs.lemmas.List.{take_more, map-append}
use Rattle.std.proofs.lemmas.Option.{get_or_from_slice_get}
use Rattle.cu_model.specs.Roads.{pieces_of}
use Rattle.cu_arrival.specs.Steps.OfPieces.{run_of}
use Rattle.cu_arrival.proofs.runs.profile_runs.Goals as goal

pub loop-index-preserved : goal.loop-index-preserved
loop-index-preserved g c =
    let pieces = pieces_of (g.N.Roads.network c.args.roads.now) c.args.profile in
    let inside : c.loop-index.index < length pieces = omega arith in
    let more : take (c.loop-index.index + 1) pieces ≡ take c.loop-index.index pieces ++ get_or pieces c.loop-index.index c.piece.result ∷ [] =
    take_more pieces c.loop-index.index c.piece.result inside in
    let there : get_or pieces c.loop-index.index c.piece.result ≡ c.piece.result = get_or_from_slice_get pieces c.loop-index.index c.piece.result c.piece.result c.piece.ensures.there in
    let both : map run_of (take c.loop-index.index pieces ++ c.piece.result ∷ []) ≡ map run_of (take c.loop-index.index pieces) ++ map run_of (c.piece.result ∷ []) =
    map-append run_of (take c.loop-index.index pieces) (c.piece.result ∷ []) in
    rw (more, there, both) (cc (c.in_ok-push.ensures, c.run_of_piece.ensures.run, c.loop-index.invariant))
