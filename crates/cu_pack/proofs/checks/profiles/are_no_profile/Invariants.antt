-- The first pieces are of known kinds, and the checker was given them.
use Rattle.std.proofs.Common.{◌≡◌, ◌≤◌, ◌<◌, ◌-◌, ℕ}
use Rattle.cu_model.specs.Checker.{Checks, pushed}
use Rattle.cu_pack.specs.Reading.{piece_kind}
use Rattle.cu_pack.specs.Steps.Pieces.{pieces_between}
use Rattle.cu_pack.proofs.checks.profiles.are_no_profile.Given as goal

abbrev pub invariant-loop-piece : goal.invariant-loop-piece
invariant-loop-piece l = record {
  kinds : (piece : ℕ) → l.start ≤ piece → piece < l.piece → piece_kind l.sections piece ≤ 2;
  pieces : Checks l.checker (pieces_between l.sections l.start l.piece);
  count : pushed l.checker ≡ l.piece - l.start;
}
