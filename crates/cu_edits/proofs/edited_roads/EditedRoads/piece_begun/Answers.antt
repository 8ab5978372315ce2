use Rattle.std.proofs.Common.{◌≡◌, ◌≤◌, subst}
use Rattle.cu_model.specs.declared.profiles.Piece.{Piece}
use Rattle.cu_model.specs.Roads.{pieces_of}
use Rattle.cu_edits.proofs.DrivenPieces.{begun_last, profile_pieces}
use Rattle.cu_edits.proofs.edited_roads.EditedRoads.piece_begun.Goals as goal

pub returns : goal.returns
returns g c =
    let same : c.piece.result ≡ c.piece-2.result = cc (c.piece.ensures.there, c.piece-2.ensures.there) in
    begun_last (pieces_of c.args.self.now c.args.profile) (profile_pieces c.args.self.now c.piece-2.ensures.sound c.args.profile c.requires) c.pieces.index c.args.time c.piece-2.result
    c.piece-2.ensures.there (subst (λ (piece : Piece). piece.from ≤ c.args.time) same c.pieces-test.false) c.pieces.invariant.later
