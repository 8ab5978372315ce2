-- A piece that was found, as profiles have it.
use Rattle.cu_model.specs.declared.profiles.Piece.{Piece}
use Rattle.cu_forms.specs.declared.finding.FoundPiece.{FoundPiece}
use Rattle.cu_forms.specs.Said.{rule_said}

abbrev pub piece_found : FoundPiece → Piece
piece_found found = record { from = found.from; rule = rule_said found.rule }
