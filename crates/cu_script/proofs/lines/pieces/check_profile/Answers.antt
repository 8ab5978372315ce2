use Rattle.std.proofs.Common.{◌≡◌, ◌++◌, ◌∷◌, [], None, ap, ◌∙◌, arith, length-append}
use Rattle.cu_model.specs.Queries.{fields_of_line}
use Rattle.cu_script.specs.Steps.LinePieces.{all_named, pieces_begun, pieces_left, pieces_refusal, those_named}
use Rattle.cu_script.proofs.LinePieceLaws.{named_push, named_stop, onward, room, those_push}
use Rattle.cu_script.proofs.lines.pieces.check_profile.Goals as goal

pub returns-in-None-piece : goal.returns-in-None-piece
returns-in-None-piece c =
    let before = c.loop-piece.yielded in
    let behind = pieces_left c.next.new.self in
    let first : pieces_left c.loop-piece.piece-iterator ≡ c.in-Some.piece ∷ behind = c.in-Some.ensures.steps in
    let whole = c.loop-piece.invariant.whole ∙ ap (λ pieces. before ++ pieces) first in
    let none : all_named (before ++ c.in-Some.piece ∷ behind) ≡ None = rw c.in-None-piece.is (named_stop before behind) in
    record { refusal = ap pieces_refusal (ap all_named whole ∙ none) }

pub push-requires : goal.push-requires
push-requires c =
    let at = c.loop-piece.invariant in
    let first : pieces_left c.loop-piece.piece-iterator ≡ c.in-Some.piece ∷ pieces_left c.next.new.self = c.in-Some.ensures.steps in
    let lt = room (fields_of_line c.args.line.now) c.loop-piece.yielded (pieces_left c.next.new.self) c.in-Some.piece 4294967295 c.requires.few
    (at.whole ∙ ap (λ ps. c.loop-piece.yielded ++ ps) first) in
    omega (arith, at.count, lt)

pub loop-piece-preserved : goal.loop-piece-preserved
loop-piece-preserved c =
    let at = c.loop-piece.invariant in
    let before = c.loop-piece.yielded in
    let piece = c.in-Some-piece.piece in
    let first : pieces_left c.loop-piece.piece-iterator ≡ c.in-Some.piece ∷ pieces_left c.next.new.self = c.in-Some.ensures.steps in
    record {
      whole = onward (pieces_begun (fields_of_line c.args.line.now)) before (pieces_left c.loop-piece.piece-iterator) (pieces_left c.next.new.self) c.in-Some.piece
          at.whole first;
      named = rw (c.in-Some-piece.is, those_push before piece) (named_push before (those_named before) piece at.named);
      pieces = rw (c.in-Some-piece.is, those_push before piece) (c.push.ensures.pieces (those_named before) at.pieces);
      count = rw (length-append before (c.in-Some.piece ∷ [])) (omega (arith, at.count, c.push.ensures.count));
    }
