use Rattle.std.proofs.Common.{◌≤◌, List, subst, arith, length, take_all}
use Rattle.cu_model.specs.declared.profiles.Piece.{Piece}
use Rattle.cu_model.specs.Checker.{Checks}
use Rattle.cu_model.proofs.FaultLaws.{profile_on_ok}
use Rattle.cu_model.proofs.checker.check_pieces.Goals as goal

pub returns-clause-valid : goal.returns-clause-valid
returns-clause-valid c =
    let pieces = c.args.pieces.now in
    let end : length pieces ≤ c.loop-piece.piece-index = omega arith in
    let checks = subst (λ (ps : List Piece). Checks c.loop-piece.checker ps) (take_all c.loop-piece.piece-index pieces end) c.loop-piece.invariant.pieces in
    profile_on_ok c.finish.result pieces (c.finish.ensures pieces checks)
