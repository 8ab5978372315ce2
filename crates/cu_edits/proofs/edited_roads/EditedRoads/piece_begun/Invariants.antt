-- All pieces behind this one begin later.
use Rattle.std.proofs.Common.{◌≡◌, ◌≤◌, ◌<◌, ℕ, suc, Some, length}
use Rattle.std.specs.Prelude.{slice_get}
use Rattle.cu_model.specs.declared.profiles.Piece.{Piece}
use Rattle.cu_model.specs.Roads.{pieces_of}
use Rattle.cu_edits.proofs.edited_roads.EditedRoads.piece_begun.Given as goal

abbrev pub invariant-pieces : goal.invariant-pieces
invariant-pieces g l = record {
  inside : l.index < length (pieces_of l.self l.profile);
  later : (k : ℕ) (piece : Piece) → slice_get (pieces_of l.self l.profile) k ≡ Some piece → suc l.index ≤ k → l.time < piece.from;
}

abbrev pub decreases-pieces : goal.decreases-pieces
decreases-pieces g l = l.index
