use Rattle.std.proofs.Common.{◌≡◌, ◌∙◌, ap, sym, arith, Some, None}
use Rattle.cu_model.specs.Faults.{piece_fault}
use Rattle.cu_model.specs.Queries.{fields_of_line}
use Rattle.cu_script.specs.Steps.LinePieces.{pieces_begun}
use Rattle.cu_script.proofs.LinePieceLaws.{few_begun, few_named, sound_named}
use Rattle.cu_script.proofs.lines.take_profile.Goals as goal

pub of-requires : goal.of-requires
of-requires c =
    let fields = fields_of_line c.args.pieces.now in
    rw c.in_ok-take_pieces.ensures.named (omega (arith, few_named (pieces_begun fields), few_begun fields, c.requires.few))

pub unreachable-requires : goal.unreachable-requires
unreachable-requires c =
    let (_, sound) = sound_named (pieces_begun (fields_of_line c.args.pieces.now)) c.requires.sound in
    let clash : None ≡ Some c.in_default.field-0 = sym sound ∙ ap piece_fault (sym c.in_ok-take_pieces.ensures.named) ∙ c.in_default.ensures.variant in
    cc clash

pub returns-clause-pieces : goal.returns-clause-pieces
returns-clause-pieces c =
    let (all, _) = sound_named (pieces_begun (fields_of_line c.args.pieces.now)) c.requires.sound in
    all ∙ ap Some (sym (c.in-Ok.ensures.ok ∙ c.in_ok-take_pieces.ensures.named))
