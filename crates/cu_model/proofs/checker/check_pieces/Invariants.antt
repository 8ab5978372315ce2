use Rattle.std.proofs.Common.{◌≡◌, take}
use Rattle.cu_model.specs.Checker.{Checks, pushed}
use Rattle.cu_model.proofs.checker.check_pieces.Given as goal

abbrev pub invariant-loop-piece : goal.invariant-loop-piece
invariant-loop-piece l = record {
  pieces : Checks l.checker (take l.piece-index l.pieces);
  count : pushed l.checker ≡ l.piece-index;
}
