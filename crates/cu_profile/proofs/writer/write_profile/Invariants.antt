use Rattle.std.proofs.Common.{◌++◌, ℕ, List, map, take}
use Rattle.cu_tables.specs.WrittenTexts.{HasRows}
use Rattle.cu_profile.specs.Written.{piece_row}
use Rattle.cu_profile.proofs.writer.write_profile.Given as goal

abbrev pub invariant-loop-piece : goal.invariant-loop-piece
invariant-loop-piece l = (rows : List (List (List ℕ))) → HasRows l.fn.writer 4 rows → HasRows l.writer 4 (rows ++ map (piece_row l.number) (take l.piece-index l.pieces))
