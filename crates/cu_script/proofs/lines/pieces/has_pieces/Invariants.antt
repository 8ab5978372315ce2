use Rattle.std.proofs.Common.{◌≡◌, length}
use Rattle.cu_model.specs.Queries.{fields_of_line}
use Rattle.cu_script.specs.Steps.LinePieces.{fields_left, stand_by_threes}
use Rattle.cu_script.proofs.lines.pieces.has_pieces.Given as goal

abbrev pub invariant-loop-rest : goal.invariant-loop-rest
invariant-loop-rest l = stand_by_threes (fields_of_line l.fn.line) ≡ stand_by_threes (fields_left l.rest)

abbrev pub decreases-loop-rest : goal.decreases-loop-rest
decreases-loop-rest l = length (fields_left l.rest)
