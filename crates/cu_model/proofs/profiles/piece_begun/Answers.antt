use Rattle.std.proofs.Common.{◌∙◌, ◌<◌, ◌-◌, length, arith}
use Rattle.std.proofs.lemmas.Option.{slice_get-get_or}
use Rattle.cu_model.specs.declared.profiles.Piece.{Piece}
use Rattle.cu_model.specs.declared.profiles.Rule.TheVariants.{Travel}
use Rattle.cu_model.proofs.Begun.{in_order, begun_point}
use Rattle.cu_model.proofs.profiles.piece_begun.Goals as goal

pub begun-requires : goal.begun-requires
begun-requires c = in_order (λ (p : Piece). p.from) c.args.pieces.now c.requires.rises

pub overflow_sub-result : goal.overflow_sub-result
overflow_sub-result c =
    let found = begun_point (λ (p : Piece). p.from) c.args.pieces.now c.args.time c.begun.result c.requires.starts c.begun.ensures.point c.begun.ensures.bound in
    omega (arith, found.0)

pub returns-clause-piece : goal.returns-clause-piece
returns-clause-piece c =
    let found = begun_point (λ (p : Piece). p.from) c.args.pieces.now c.args.time c.begun.result c.requires.starts c.begun.ensures.point c.begun.ensures.bound in
    let inside : c.begun.result - 1 < length c.args.pieces.now = found.1.within in
    found.1.last ∙ slice_get-get_or c.args.pieces.now (c.begun.result - 1) (record { from = 0; rule = Travel 0 }) inside
