use Rattle.std.proofs.Common.{◌∙◌, ◌++◌, List, ℕ, map, take, ap, refl, subst, arith, append_assoc}
use Rattle.std.proofs.lemmas.List.{append-nil, take_all}
use Rattle.cu_model.specs.declared.profiles.Piece.{Piece}
use Rattle.cu_tables.specs.WrittenTexts.{HasRows}
use Rattle.cu_tables.proofs.WriteFacts.{adds_row, may_follow}
use Rattle.cu_profile.specs.Written.{piece_row}
use Rattle.cu_profile.proofs.WritingFacts.{map_more}
use Rattle.cu_profile.proofs.writer.write_profile.Goals as goal

pub loop-piece-init : goal.loop-piece-init
loop-piece-init c = λ rows h. rw (append-nil rows) h

pub write_piece-requires : goal.write_piece-requires
write_piece-requires c = let (rows, h) = c.requires in may_follow _ 4 _ (c.loop-piece.invariant rows h)

pub loop-piece-preserved : goal.loop-piece-preserved
loop-piece-preserved c = λ rows h.
    let before = map (piece_row c.args.number) (take c.loop-piece.piece-index c.args.pieces.now) in
    subst (HasRows c.write_piece.new.writer 4)
    (append_assoc rows before _ ∙ ap (λ (t : List (List (List ℕ))). rows ++ t) (map_more (piece_row c.args.number) c.args.pieces.now c.loop-piece.piece-index _ (omega arith)))
    (adds_row c.loop-piece.writer c.write_piece.new.writer 4 (rows ++ before) _ c.in_ok-write_piece.ensures refl (c.loop-piece.invariant rows h))

pub returns : goal.returns
returns c = λ rows h.
    subst (HasRows c.loop-piece.writer 4) (ap (λ (ps : List Piece). rows ++ map (piece_row c.args.number) ps) (take_all c.loop-piece.piece-index c.args.pieces.now (omega arith)))
    (c.loop-piece.invariant rows h)
