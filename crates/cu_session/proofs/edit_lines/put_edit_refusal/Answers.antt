use Rattle.cu_io.proofs.Appending.{wrote_then, wrote_stops}
use Rattle.cu_session.proofs.edit_lines.put_edit_refusal.Goals as goal

pub returns-in_err-put_all-in-Piece : goal.returns-in_err-put_all-in-Piece
returns-in_err-put_all-in-Piece g c =
    record { wrote = rw c.in-Piece.is (wrote_stops _ c.from_residual.ensures.0 c.in_err-put_all-in-Piece.ensures.wrote) }

pub returns-in_ok-put_all-in-Piece : goal.returns-in_ok-put_all-in-Piece
returns-in_ok-put_all-in-Piece g c =
    record { wrote = rw c.in-Piece.is (wrote_then c.in_ok-put_all-in-Piece.ensures.wrote c.put_piece_refusal.ensures.wrote) }
