use Rattle.std.proofs.Common.{◌≡◌, ◌++◌, Some, length}
use Rattle.cu_model.specs.Checker.{Checks, pushed}
use Rattle.cu_model.specs.Queries.{fields_of_line}
use Rattle.cu_script.specs.Steps.LinePieces.{all_named, pieces_begun, pieces_left, those_named}
use Rattle.cu_script.proofs.lines.pieces.check_profile.Given as goal

abbrev pub invariant-loop-piece : goal.invariant-loop-piece
invariant-loop-piece l = record {
  whole : pieces_begun (fields_of_line l.fn.line) ≡ l.yielded ++ pieces_left l.piece-iterator;
  named : all_named l.yielded ≡ Some (those_named l.yielded);
  pieces : Checks l.checker (those_named l.yielded);
  count : pushed l.checker ≡ length l.yielded;
}
